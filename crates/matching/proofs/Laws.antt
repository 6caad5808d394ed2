-- Patterns by their code, and output actions one after another.
-- Assumes nothing.
use mathlib.Core.Path.{◌≡◌, refl, sym, ap, ◌∙◌}
use mathlib.Core.Bool.{Bool, true, false, not, cond, ◌&&◌, ◌||◌}
use mathlib.Core.List.{List, ◌∷◌}
use Prim.Native.Nat.{ℕ, zero, suc, ◌+◌, ◌-◌, ◌<◌}
use native.Mathlib.Omega.{arith}
use lib.Dec.{leb, eqb}
use lib.IntN.{ℤ}
use lib.ListN.{get_or, drop}
use borrow.Author.Tests.{ne_eqb, eq-eqb}
use Rattle.model.specs.Values.{eq_z}
use Rattle.model.specs.Expressions.{Read, bad, got, after, read_many, expression}
use Rattle.model.specs.Rules.{pattern_of, Action, send, bare_action, read_action, holds_expression, sent_tag}
use Rattle.model.specs.Cycles.{matches, writes}
use Rattle.expressions.specs.Reading.{end_from, is_read, skip_to}
use Rattle.expressions.proofs.Heads.{head_at}
use Rattle.rules.specs.Bodies.{action_codes, any_code, actions_from}
use Rattle.typing.specs.Fits.{tag_of, exp_read, action_at}
use Rattle.rules.proofs.Laying.{found}
use Rattle.typing.proofs.Peeling.{many_is, peel}
use Rattle.typing.proofs.Patterns.{constant_is, any_is}
use Rattle.typing.proofs.Actions.{action_read, action_next}
use Rattle.std.specs.Prelude.{Option, Some, None}
use Rattle.matching.specs.Outs.{open_from, outs_of}

-- a code c that was read where o stands
module _ {c o : ℕ} (q : c ≡ o) (z : ℤ) (tag : ℕ) (value : ℤ) where
  abbrev k : Bool
  k = matches (pattern_of o z) (record { tag = tag; value = value })

  pub ready_zero : c ≡ 0 → true ≡ k
  unfolding pattern_of matches
  ready_zero e = rw (sym q ∙ e)

  module _ (n : c ≡ 0 → ⊥) where
    by_code : (b : Bool) → (eqb c 2 || leb 6 c) ≡ b → k ≡ (eqb (tag_of c) tag && cond b (eq_z z value) true)
    unfolding matches
    by_code true e = rw (sym q, constant_is c z e)
    by_code false e = rw (sym q, any_is c z e n) (sym (and_true (eqb (tag_of c) tag)))
      where
        and_true : (b : Bool) → (b && true) ≡ b
        and_true true = refl
        and_true false = refl

    module _ {t : ℕ} (h : t ≡ tag_of c) where
      pub ready_tag : (t ≡ tag → ⊥) → false ≡ k
      ready_tag e = sym (by_code (eqb c 2 || leb 6 c) refl ∙ rw (sym h, ne_eqb t tag e))

      pub ready_constant : {r : Bool} → t ≡ tag → (eqb c 2 || leb 6 c) ≡ true → r ≡ eq_z z value → r ≡ k
      ready_constant e g r = r ∙ sym (by_code true g ∙ rw (sym h, eq-eqb t tag e))

      pub ready_any : t ≡ tag → (eqb c 2 || leb 6 c) ≡ false → true ≡ k
      ready_any e g = sym (by_code false g ∙ rw (sym h, eq-eqb t tag e))

-- ── output actions ───────────────────────────────────────────────────────────────────────────

-- an action of a code other than 0 writes
writes_by : (t : Bool) (c : ℕ) (x : Action) → writes x ≡ true → holds_expression c ≡ t → writes (cond t x (bare_action c)) ≡ not (eqb c 0)
unfolding writes bare_action holds_expression
writes_by true zero x w e = cc
writes_by true (suc c) x w e = w ∙ rw (ne_eqb (suc c) 0 (λ i. omega arith))
writes_by false zero x w e = refl
writes_by false (suc c) x w e = rw (ne_eqb (suc c) 0 (λ i. omega arith))

writes_is : (b : List ℕ) (at : ℕ) → writes (action_at (drop at b)) ≡ not (eqb (get_or b at 0) 0)
unfolding action_at writes
writes_is b at =
    let c = get_or (drop at b) 0 0 in
    writes_by (holds_expression c) c (send (sent_tag c) (exp_read (expression (drop 1 (drop at b))))) refl refl
    ∙ ap (λ (c : ℕ). not (eqb c 0)) (head_at at b)

-- an action before others: they count only where it is open
one_more : (fs : List ℕ) (k at size end : ℕ) (x : Action) (q : Read (List Action)) → end ≡ at + size
    → outs_of fs k at (after q (λ rest n. got (x ∷ rest) (size + n))) ≡ cond (not (writes x && eqb (get_or fs k 0) 1)) (outs_of fs (k + 1) end q) None
unfolding outs_of after open_from
one_more fs k at size end x bad e = sym (same (not (writes x && eqb (get_or fs k 0) 1)))
  where
    same : (t : Bool) → cond {A = Option ℕ} t None None ≡ None
    same true = refl
    same false = refl
one_more fs k at size end x (got rest n) e = rw e (both (not (writes x && eqb (get_or fs k 0) 1)) (open_from fs (k + 1) rest) (ap Some (omega arith)))
  where
    both : (t u : Bool) {y z : Option ℕ} → y ≡ z → cond (t && u) y None ≡ cond t (cond u z None) None
    both true true e = e
    both true false e = refl
    both false u e = refl

module _ (fs b : List ℕ) where
  -- the answer for m actions from an offset on, the first of them being number k
  abbrev pub left : ℕ → ℕ → ℕ → Option ℕ
  left k at m = outs_of fs k at (actions_from false m at b)

  pub left_none : (k at : ℕ) → left k at 0 ≡ Some at
  unfolding actions_from read_many outs_of open_from
  left_none k at = ap Some (omega arith)

  -- m actions are there from an offset on
  module _ (m at : ℕ) (h : 0 < m) (r : is_read (actions_from false m at b) ≡ true) where
    -- the first ends there
    module _ (end : ℕ) (g : end ≡ skip_to at (read_action any_code (drop at b))) where
      e : end_from at (read_action (action_codes false) (drop at b)) ≡ Some end
      e = action_next false b m at h r end g

      pub rest_there : is_read (actions_from false (m - 1) end b) ≡ true
      unfolding actions_from
      rest_there = (peel (read_action (action_codes false)) b m at end h r e).rest

      -- it is of code c, and f is its output's flag
      module _ (k c f : ℕ) (ec : c ≡ get_or b at 0) (ef : f ≡ get_or fs k 0) where
        left_is : left k at m ≡ cond (not (not (eqb c 0) && eqb f 1)) (left (k + 1) end (m - 1)) None
        unfolding actions_from
        left_is =
            let x = found (read_action (action_codes false) (drop at b)) at end e in
            let s : m ≡ suc (m - 1) = omega arith in
            let w : writes x.thing ≡ not (eqb c 0) = ap writes (action_read (action_codes false) (drop at b) x.read).0 ∙ writes_is b at ∙ rw ec in
            ap (λ (j : ℕ). outs_of fs k at (read_many (read_action (action_codes false)) j (drop at b))) s
            ∙ ap (outs_of fs k at) (many_is (read_action (action_codes false)) b (m - 1) at end x)
            ∙ one_more fs k at x.size end x.thing _ x.ends
            ∙ rw (w, ef)

        pub left_shut : (not (eqb c 0) && eqb f 1) ≡ true → None ≡ left k at m
        left_shut t = sym (left_is ∙ rw t)

        pub left_more : (not (eqb c 0) && eqb f 1) ≡ false → left k at m ≡ left (k + 1) end (m - 1)
        left_more t = left_is ∙ rw t
