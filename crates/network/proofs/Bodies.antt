-- The stretch that the lookup names, a law for each way out.
-- Assumes nothing.
use mathlib.Core.Path.{◌≡◌, refl, sym, subst}
use mathlib.Core.List.{List, []}
use Prim.Native.Nat.{ℕ, ◌+◌, ◌≤◌, ◌<◌}
use native.Mathlib.Omega.{arith}
use lib.ListN.{length, get_or}
use denote.Ref.{Bor}
use Rattle.std.specs.Prelude.{Result, Ok, Err, Option, Some, None, MatchOption}
use Rattle.std.specs.Option.{unwrap_or}
use Rattle.std.specs.Result.{result_ok}
use borrow.Author.Tests.{lt-ltb, le-ltb}
use Rattle.model.specs.declared.Refusal.{Refusal}
use Rattle.model.specs.Bytes.{two_at}
use Rattle.model.specs.Reasons.{reason_number}
use native.Mathlib.Decide.{dec_lt}
use Rattle.model.proofs.Sizes.{few_boxes}
use Rattle.model.proofs.Whole.{network_checked}
use Rattle.model.specs.NetworkFile.{Index, Stretch, Verdict, good, refuse, network, box_at, rules_end, rule_at, rule_stretch}
use Rattle.model.specs.Calls.{body_call}
use Rattle.model.proofs.Lookup.{rules_length}
use Rattle.table.specs.declared.Counts.{Counts}
use Rattle.table.specs.Table.{index_in}
use Rattle.octets.specs.Part.{PartOf}
use Rattle.lookup.specs.declared.Net.{Net}
use Rattle.lookup.specs.Tabled.{Tabled}
use Rattle.lookup.proofs.Tabled.{n_boxes, rule_inside}
use Rattle.network.specs.Answers.{Checked, nowhere, Lies, Found}
use Rattle.network.specs.declared.Stretch as declared

-- a part that lies where the lookup says
pub lies : (p r : Bor (List ℕ)) (b k : ℕ) (x : declared.Stretch) → Lies p.now b k x → PartOf p x.start x.len r → PartOf p (body_call p.now b k).start (body_call p.now b k).len r
lies p r b k x e h = subst (λ (q : Stretch). PartOf p q.start q.len r) (sym e.body) h

pub refused : (s : List ℕ) (b r n p : ℕ) → network s ≡ refuse n p → body_call s b r ≡ nowhere s
unfolding body_call rule_stretch
refused s b r n p e = rw e refl

-- where there is no such rule
pub ends : (s : List ℕ) (b r n : ℕ) → n ≡ length s → body_call s b r ≡ nowhere s → Lies s b r (record { start = n; len = 0 })
ends s b r n e f = record { body = rw e f; inside = omega arith }

module _ (s t : List ℕ) (c : Counts) (h : Tabled s t c) (b r : ℕ) where
  abbrev x : Index
  x = index_in t c

  pub no_box : c.boxes ≤ b → body_call s b r ≡ nowhere s
  unfolding body_call rule_stretch
  no_box l = rw (h.found, le-ltb b (length x.boxes) (omega (arith, n_boxes s t c h))) refl

  pub no_rule_lem : b < c.boxes → length (box_at s x b).rules ≤ r → body_call s b r ≡ nowhere s
  unfolding body_call rule_stretch
  no_rule_lem l m =
      rw (h.found, lt-ltb b (length x.boxes) (omega (arith, n_boxes s t c h)), le-ltb (get_or x.firsts b 0 + r) (rules_end x b) (omega (arith, m, rules_length s x [] b))) refl

  module _ (l : b < c.boxes) (m : r < length (box_at s x b).rules) where
    known : body_call s b r ≡ record { start = rule_at x b r + 3; len = two_at s (rule_at x b r + 1) }
    unfolding body_call rule_stretch
    known =
        rw (h.found, lt-ltb b (length x.boxes) (omega (arith, n_boxes s t c h)), lt-ltb (get_or x.firsts b 0 + r) (rules_end x b) (omega (arith, m, rules_length s x [] b))) refl

    -- where the rule's field begins
    pub stands : (at len : ℕ) → at ≡ rule_at x b r → len ≡ two_at s (at + 1) → Lies s b r (record { start = at + 3; len = len })
    stands at len e f =
        let i = rule_inside s t c h b r l m in
        record { body = rw (f, e) known; inside = rw (f, e) i.whole }

-- ── by what the check answers ────────────────────────────────────────────────────────────────

-- what `ok` and `and_then` make of the check's answer, by a closure that looks the rule up
pub found_in : (s : List ℕ) (b r : ℕ) (q : Result Net Refusal) (o : Option Net) (found : Option declared.Stretch) (P : Net → Type 0) → Checked s q → o ≡ result_ok q
    → MatchOption o (found ≡ None) P → ((n : Net) → P n → Found n.file.now b r found) → Found s b r found
unfolding Checked
found_in s b r (Ok n) o found P c e h g = subst (λ (l : List ℕ). Found l b r found) c (g n (rw e at h))
found_in s b r (Err x) o found P c e h g = let z : found ≡ None = rw e at h in rw z (unfold Found in refused s b r (reason_number x.reason) x.place c)

pub or_nowhere : (s : List ℕ) (b r : ℕ) (found : Option declared.Stretch) → Found s b r found → Lies s b r (unwrap_or found (record { start = length s; len = 0 }))
unfolding Found
or_nowhere s b r (Some x) h = h
or_nowhere s b r None h = ends s b r (length s) refl h

-- ── a number past 255 ────────────────────────────────────────────────────────────────────────

box_past : (s : List ℕ) (b r : ℕ) → 255 < b → (v : Verdict Index) → network s ≡ v → rule_stretch s v b r ≡ nowhere s
unfolding rule_stretch
box_past s b r l (refuse n p) e = refl
box_past s b r l (good x) e = let few = few_boxes s x (network_checked s x e).valid in rw (le-ltb b (length x.boxes) (omega (arith, few, l))) refl

pub far_box : (s : List ℕ) (b r : ℕ) → 255 < b → body_call s b r ≡ nowhere s
unfolding body_call
far_box s b r l = box_past s b r l (network s) refl

rule_past : (s : List ℕ) (b r : ℕ) → 255 < r → (v : Verdict Index) → network s ≡ v → rule_stretch s v b r ≡ nowhere s
unfolding rule_stretch
rule_past s b r l (refuse n p) e = refl
rule_past s b r l (good x) e =
    elim (dec_lt b (length x.boxes)) [
      | yes h ↦ (let few = (network_checked s x e).valid.few_rules b h in rw (lt-ltb b (length x.boxes) h, le-ltb (get_or x.firsts b 0 + r) (rules_end x b) (omega (arith, few, l))) refl)
      | no h ↦ rw (le-ltb b (length x.boxes) (omega (arith, h))) refl
    ]

pub far_rule : (s : List ℕ) (b r : ℕ) → 255 < r → body_call s b r ≡ nowhere s
unfolding body_call
far_rule s b r l = rule_past s b r l (network s) refl
