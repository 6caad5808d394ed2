-- A rule of the last box: the shape of that box, read off the table. Assumes nothing.
use Prim.Native.Nat.{ℕ, ◌+◌, ◌-◌, ◌*◌, ◌≤◌}
use mathlib.Core.Path.{◌≡◌, refl, ap, ◌∙◌, sym, subst}
use mathlib.Core.List.{List}
use lib.ListN.{length, get_or}
use native.Mathlib.Omega.{arith}
use Rattle.model.specs.Rules.{Shape}
use Rattle.model.specs.Network.{shape_of}
use Rattle.model.specs.NetworkFile.{body_at, box_of, wires_of, shape_at, field_fault}
use Rattle.shapes.specs.Shapes.{wires_in, BoxFits, types_in, shape_in}
use Rattle.shapes.specs.declared.Arity.{Arity}
use lib.Dec.{leb}
use borrow.Author.Tests.{le-leb}
use Rattle.model.specs.Values.{no_type, in_precision}
use Rattle.model.specs.Expressions.{type_at}
use Rattle.model.proofs.Tests.{both}
use Rattle.model.proofs.Decoded.{Each, GoodType, length-tabulate, get_d_tabulate, shape_ins, shape_vars}
use Rattle.typing.specs.Fits.{Precise}
use Rattle.table.specs.declared.Counts.{Counts}
use Rattle.std.specs.Prelude.{Result, Ok, Err, MatchResult, IsErrAnd, ⊤}
use Rattle.std.proofs.lemmas.Result.{err_from_is_err_and}
use Rattle.model.specs.declared.Reason.{Reason}
use Rattle.model.specs.Reasons.{reason_number, fault_said}
use Rattle.typing.specs.declared.RuleFault.{RuleFault}
use Rattle.typing.specs.RuleFault.{rule_fault, number_of}
use Rattle.typing.proofs.Faults.{number_is}
use Rattle.table.specs.Table.{region, index_in, Within}
use Rattle.model.proofs.Accepted.{Valid}
use Rattle.table.proofs.Regions.{region_at}
use Rattle.table.proofs.Fields.{case_3}
use Rattle.table.proofs.Lengths.{boxes_n, box_fits}

-- what `map_err` makes of a rule's fault, by a closure that keeps the reason
pub reason_said : (q : Result ⊤ RuleFault) (r : Result ⊤ Reason) (Q : RuleFault → Reason → Type 0) → ((f : RuleFault) (x : Reason) → Q f x → x ≡ f.reason) → MatchResult q (λ x. r ≡ Ok x) (λ f. IsErrAnd r (Q f)) → fault_said r ≡ number_of q
unfolding fault_said number_of
reason_said (Ok u) r Q g h = rw h refl
reason_said (Err f) r Q g h = let p = err_from_is_err_and r h in rw (p.1) (ap reason_number (g f p.0 p.2))

-- types that are good, laid out in bytes
types_precise : (l : List ℕ) (n : ℕ) → Each GoodType no_type (types_in l n) → Precise l n
unfolding types_in in_precision
types_precise l n g = record {
  each = λ k h.
      let q : GoodType (type_at l (2 * k)) = subst GoodType (get_d_tabulate n (λ i. type_at l (2 * i)) no_type k h) (g k (omega (arith, length-tabulate n (λ i. type_at l (2 * i))))) in
      both (leb 1 (type_at l (2 * k)).p) (leb (type_at l (2 * k)).p 30) (le-leb _ _ q.low) (le-leb _ _ q.high);
}

module _ (s t : List ℕ) (c : Counts) (room : 656 ≤ length t) (w : Within c) (S : Valid s (index_in t c)) (own : c.last ≡ 2) (o : ℕ) (e : o ≡ get_or t (63 + c.boxes) 0) where
  at_last : o ≡ get_or (index_in t c).boxes (c.boxes - 1) 0
  unfolding index_in
  at_last =
      let h = w.owned own in
      let k : 63 + c.boxes ≡ 64 + (c.boxes - 1) = omega arith in
      e ∙ ap (λ (j : ℕ). get_or t j 0) k ∙ sym (region_at 64 c.boxes t (c.boxes - 1) (omega arith))

  pub last_fits : BoxFits s o
  last_fits =
      let h = w.owned own in
      let n = boxes_n t c room w in
      rw at_last (box_fits s (length (index_in t c).wires) (c.boxes - 1) (get_or (index_in t c).boxes (c.boxes - 1) 0) (S.boxes (c.boxes - 1) (omega arith)))

  last_shape : shape_of (wires_in s t c.wires) (box_of (body_at s o)) ≡ shape_at s (index_in t c) (c.boxes - 1)
  unfolding shape_at wires_of wires_in index_in region
  last_shape = ap (λ (k : ℕ). shape_of (wires_in s t c.wires) (box_of (body_at s k))) at_last

  last_case : (b : List ℕ) → field_fault s (index_in t c) 3 b ≡ number_of (rule_fault (shape_at s (index_in t c) (length (index_in t c).boxes - 1)) c.inbox b)
  unfolding index_in
  last_case b = case_3 s (index_in t c) 3 b refl own ∙ sym (number_is (shape_at s (index_in t c) (length (index_in t c).boxes - 1)) c.inbox b)

  pub rule_is_lem : (sh : Shape) (r : Result ⊤ RuleFault) (b : List ℕ) → sh ≡ shape_of (wires_in s t c.wires) (box_of (body_at s o)) → r ≡ rule_fault sh c.inbox b → number_of r ≡ field_fault s (index_in t c) 3 b
  rule_is_lem sh r b d f =
      let n = boxes_n t c room w in
      let z : c.boxes - 1 ≡ length (index_in t c).boxes - 1 = omega arith in
      ap number_of f ∙ ap (λ (y : Shape). number_of (rule_fault y c.inbox b)) (d ∙ last_shape ∙ ap (shape_at s (index_in t c)) z) ∙ sym (last_case b)

  -- the types of its inputs and variables have precisions of 1 to 30
  pub rule_precise : (ins outs vars : List ℕ) (a : Arity) → shape_in ins outs vars a ≡ shape_of (wires_in s t c.wires) (box_of (body_at s o)) → Precise ins a.ins × Precise vars a.vars
  unfolding shape_in
  rule_precise ins outs vars a d =
      let h = w.owned own in
      let n = boxes_n t c room w in
      let sh : shape_in ins outs vars a ≡ shape_at s (index_in t c) (c.boxes - 1) = d ∙ last_shape in (
        types_precise ins a.ins (subst (Each GoodType no_type) (sym (ap (λ (y : Shape). y.ins) sh)) (shape_ins s (index_in t c) S (c.boxes - 1) (omega arith))),
        types_precise vars a.vars (subst (Each GoodType no_type) (sym (ap (λ (y : Shape). y.vars) sh)) (shape_vars s (index_in t c) S (c.boxes - 1) (omega arith))),
      )
