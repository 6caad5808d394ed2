-- Parts one after another, by a `try_fold` over their count whose closure says where one ends.
-- Assumes nothing.
use Rattle.std.proofs.Common.{◌≡◌, ℕ, ◌-◌, ◌<◌, ◌≤◌, List, [], ◌∷◌, Option, Some, None, drop, sym, ◌∙◌, ap, subst, arith, MatchOption}
use Rattle.std.proofs.Math.Nat.{sub-zero}
use Rattle.std.proofs.iter.Yields.{nat_range_steps}
use Rattle.std.specs.List.{FoldsTo}
use Rattle.std.specs.Iterator.{YieldsThen, TryFoldTurn, TryFoldsItems}
use Rattle.std.specs.ControlFlow.{continue_value}
use Rattle.std.specs.declared.ops.Range.{Range}
use Rattle.std.specs.declared.ops.ControlFlow.{ControlFlow}
use denote.Param.Members.{Mut, Called}
use Rattle.model.specs.Expressions.{Read, read_many}
use Rattle.expressions.specs.Reading.{end_from}
use Rattle.rules.proofs.Ends.{end_step, end_bad, end_none}

-- what `?` makes of an Option
abbrev goes : {E : Type 0} → Option ℕ → ControlFlow E ℕ → Type 0
goes v c = v ≡ continue_value c

abbrev stops : {E : Type 0} → E → Option ℕ → Type 0
stops e r = r ≡ None

-- each call leaves the closure f as it was, and says where the thing at an offset ends
module _ {A : Type 0} (read : List ℕ → Read A) (b : List ℕ) {F : Type 0} (E : Type 0) (g : Mut F (ℕ × (ℕ × Unit {0})) (Option ℕ)) (f : F) where
  abbrev pub Says : Type 0
  Says = (at x : ℕ) (v : Option ℕ) (q : F) → Called g f (at, (x, tt)) v q → (q ≡ f) × (v ≡ end_from at (read (drop at b)))

  -- from the items that the range s still gives
  folded : Says → (xs : List ℕ) (s u : Range ℕ) (o : Option ℕ) (q : F) (at to : ℕ) (r : Option ℕ) → YieldsThen nat_range_steps s xs o u
      → FoldsTo {P = F × ℕ} (TryFoldTurn g (goes {E = E})) (f, at) xs (q, to)
      → MatchOption o (r ≡ Some to) (λ x. (v : Option ℕ) × (h : F) × (e : E) × Called g q (to, (x, tt)) v h × (v ≡ None) × (r ≡ None))
      → r ≡ end_from at (read_many read (s.end - s.start) (drop at b))
  folded call [] s u None q at to r y t m =
      let z : s ≡ y.0 = y.1 in
      let w : at ≡ to = ap (λ (p : F × ℕ). p.1) t in
      let none : s.end - s.start ≤ 0 = rw z (omega (arith, y.2.1.0)) in
      m ∙ rw (sym w) (sym (end_none read b (s.end - s.start) at none))
  folded call [] s u (Some x) q at to r y t m =
      let z : s ≡ y.0 = y.1 in
      let w : (f, at) ≡ (q, to) = t in
      let some : 0 < s.end - s.start = rw z y.2.1.0 in
      let called = subst (λ (p : F × ℕ). Called g p.0 (p.1, (x, tt)) m.0 m.1) (sym w) m.3 in
      m.5 ∙ sym (end_bad read b (s.end - s.start) at some (sym (call at x m.0 m.1 called).1 ∙ m.4))
  folded call (x ∷ xs) s u o q at to r y t m =
      let j : Range ℕ = y.1.0 in
      let v = call at x t.1.0 t.0.0 t.1.1 in
      let one_less : j.end - j.start ≡ s.end - s.start - 1 = omega (arith, y.1.1.0, y.1.1.1.2) in
      let on = end_step read b (s.end - s.start) at t.0.1 y.1.1.1.0 (sym v.1 ∙ t.1.2) in
      folded call xs j u o q t.0.1 to r (y.0, y.1.2, y.2) (rw (sym v.0) t.2) m ∙ rw one_less (sym on)

  pub fold_ends : (n from : ℕ) (r : Option ℕ) (u : Range ℕ) → TryFoldsItems nat_range_steps g (goes {E = E}) stops (record { start = 0; end = n }) f from r u → Says
      → r ≡ end_from from (read_many read n (drop from b))
  fold_ends n from r u d call =
      folded call d.0 (record { start = 0; end = n }) u d.1 d.2 from d.3 r d.4 d.5 d.6 ∙ rw sub-zero
