-- That a table is that of an accepted file is known in one way only: what a ghost field asks of its fact.
-- Assumes nothing.
use Rattle.std.specs.Prelude.{ℕ, ◌≡◌, List, ◌⊎◌}
use Rattle.std.specs.Coded.{Coded, Coded-set, coded_ℕ, coded_list, coded×, coded⊎, code_by, le_prop}
use mathlib.Core.Path.{refl}
use mathlib.Core.Logic.{inl, inr}
use Rattle.model.specs.NetworkFile.{Index, Verdict, good, refuse, network}
use Rattle.table.specs.declared.Counts.{Counts}
use Rattle.table.specs.Table.{index_in, Within}
use Rattle.lookup.specs.Tabled.{Tabled}

abbrev Fields : Type 0
Fields = List ℕ × (List ℕ × (List ℕ × (List ℕ × (ℕ × (List ℕ × (List ℕ × ℕ))))))

index_code : Coded Index
index_code =
    let l : Coded (List ℕ) = coded_list coded_ℕ in
    let c : Coded Fields = coded× l (coded× l (coded× l (coded× l (coded× coded_ℕ (coded× l (coded× l coded_ℕ)))))) in
    code_by Fields c (λ x. (x.wires, (x.boxes, (x.firsts, (x.rules, (x.inbox, (x.inputs, (x.outputs, x.last))))))))
    (λ y. record { wires = y.0; boxes = y.1.0; firsts = y.1.1.0; rules = y.1.1.1.0; inbox = y.1.1.1.1.0; inputs = y.1.1.1.1.1.0; outputs = y.1.1.1.1.1.1.0; last = y.1.1.1.1.1.1.1 }) (λ x. refl)

abbrev split : Verdict Index → Index ⊎ (ℕ × ℕ)
split (good x) = inl x
split (refuse n p) = inr (n, p)

abbrev join : Index ⊎ (ℕ × ℕ) → Verdict Index
join (inl x) = good x
join (inr y) = refuse y.0 y.1

join_split : (v : Verdict Index) → join (split v) ≡ v
join_split (good x) = refl
join_split (refuse n p) = refl

verdict_code : Coded (Verdict Index)
verdict_code = code_by (Index ⊎ (ℕ × ℕ)) (coded⊎ index_code (coded× coded_ℕ coded_ℕ)) split join join_split

Within_prop : (c : Counts) → IsProp (Within c)
Within_prop c x y = λ i. record {
  wires = le_prop x.wires y.wires i;
  boxes = le_prop x.boxes y.boxes i;
  rules = le_prop x.rules y.rules i;
  inbox = le_prop x.inbox y.inbox i;
  inboxes = le_prop x.inboxes y.inboxes i;
  inputs = le_prop x.inputs y.inputs i;
  outputs = le_prop x.outputs y.outputs i;
  owned = λ e. le_prop (x.owned e) (y.owned e) i;
}

pub Tabled_prop : (s t : List ℕ) (c : Counts) → IsProp (Tabled s t c)
Tabled_prop s t c x y = λ i. record {
  long = le_prop x.long y.long i;
  within = Within_prop c x.within y.within i;
  found = Coded-set verdict_code (network s) (good (index_in t c)) x.found y.found i;
}
