-- The limits of actions, one after another.
-- Assumes nothing.
use mathlib.Core.Path.{◌≡◌, refl, ap, ◌∙◌}
use mathlib.Core.Bool.{Bool, true, false, cond, ◌&&◌}
use mathlib.Core.List.{List, ◌∷◌}
use Prim.Native.Nat.{ℕ, zero, suc, ◌+◌, ◌-◌, ◌≤◌, ◌<◌}
use native.Mathlib.Omega.{arith}
use lib.Dec.{ltb, eqb}
use lib.ListN.{get_or, drop, length, get_or-eq_default}
use lib.Seq.{drop-drop}
use Rattle.std.specs.Prelude.{Some, None}
use Rattle.model.specs.Expressions.{Exp, Read, bad, got, after, read_many, provided, expression, expression_limits}
use Rattle.model.specs.Rules.{Action, nothing, bare, send, bare_action, sent_tag, read_action, holds_expression, action_limits}
use Rattle.expressions.specs.Reading.{limits_read, end_from}
use Rattle.expressions.proofs.Heads.{head_at}
use Rattle.rules.specs.Bodies.{sent_limits, limits_of}
use Rattle.rules.proofs.Ends.{nothing_there}

-- the limits of one action
unfoldable pub keeps : Action → Bool
keeps nothing = true
keeps (bare t) = true
keeps (send t e) = expression_limits e

pub keeps_more : (x : Action) (xs : List Action) → action_limits (x ∷ xs) ≡ (keeps x && action_limits xs)
unfolding action_limits keeps
keeps_more nothing xs = refl
keeps_more (bare t) xs = refl
keeps_more (send t e) xs = refl

unfoldable pub keeps_read : Read Action → Bool
keeps_read bad = false
keeps_read (got x n) = keeps x

module _ (f : List ℕ → Read Action) (b : List ℕ) where
  rest_got : (t : Bool) (r : Read (List Action)) (x : Action) (n : ℕ) → keeps x ≡ t → limits_of (after r (λ rest m. got (x ∷ rest) (n + m))) ≡ (t && limits_of r)
  unfolding limits_of after
  rest_got true bad x n e = refl
  rest_got false bad x n e = refl
  rest_got t (got xs m) x n e = keeps_more x xs ∙ rw e

  step_go : (k at end : ℕ) (r : Read Action) → end_from at r ≡ Some end → keeps_read r ≡ true → limits_of (after r (λ a n. after (read_many f k (drop n (drop at b))) (λ rest m. got (a ∷ rest) (n + m)))) ≡ limits_of (read_many f k (drop end b))
  unfolding end_from after keeps_read
  step_go k at end bad e g = absurd cc
  step_go k at end (got x n) e g =
      let q : at + n ≡ end = cc in
      rw (drop-drop n at b) (rest_got true (read_many f k (drop (at + n) b)) x n g ∙ ap (λ (j : ℕ). limits_of (read_many f k (drop j b))) q)

  pub limits_step : (k at end : ℕ) → 0 < k → end_from at (f (drop at b)) ≡ Some end → keeps_read (f (drop at b)) ≡ true → limits_of (read_many f k (drop at b)) ≡ limits_of (read_many f (k - 1) (drop end b))
  unfolding read_many
  limits_step zero at end l e g = absurd (omega arith)
  limits_step (suc k) at end l e g =
      let q : k ≡ suc k - 1 = omega arith in
      step_go k at end (f (drop at b)) e g ∙ ap (λ (j : ℕ). limits_of (read_many f j (drop end b))) q

  fail_go : (k at : ℕ) (r : Read Action) → keeps_read r ≡ false → limits_of (after r (λ a n. after (read_many f k (drop n (drop at b))) (λ rest m. got (a ∷ rest) (n + m)))) ≡ false
  unfolding limits_of after keeps_read
  fail_go k at bad g = refl
  fail_go k at (got x n) g = rest_got false (read_many f k (drop n (drop at b))) x n g

  pub limits_fail : (k at : ℕ) → 0 < k → keeps_read (f (drop at b)) ≡ false → limits_of (read_many f k (drop at b)) ≡ false
  unfolding read_many
  limits_fail zero at l g = absurd (omega arith)
  limits_fail (suc k) at l g = fail_go k at (f (drop at b)) g

  pub limits_none : (k at : ℕ) → k ≤ 0 → limits_of (read_many f k (drop at b)) ≡ true
  unfolding limits_of read_many action_limits
  limits_none zero at l = refl
  limits_none (suc k) at l = absurd (omega arith)

pub keeps_bad : (r : Read Action) (at : ℕ) → end_from at r ≡ None → keeps_read r ≡ false
unfolding end_from keeps_read
keeps_bad bad at e = refl
keeps_bad (got x n) at e = absurd cc

-- ── the action at the start of a stretch ─────────────────────────────────────────────────────

sent_keeps : (r : Read Exp) (tag : ℕ) → keeps_read (after r (λ e n. got (send tag e) (1 + n))) ≡ limits_read r
unfolding keeps_read after limits_read keeps
sent_keeps bad tag = refl
sent_keeps (got e n) tag = refl

bare_keeps : (c : ℕ) → keeps (bare_action c) ≡ true
unfolding bare_action keeps
bare_keeps c = go (eqb c 0)
  where
    go : (t : Bool) → keeps (cond t nothing (bare (c - 2))) ≡ true
    go true = refl
    go false = refl

keeps_go : (t : Bool) (s : List ℕ) → holds_expression (get_or s 0 0) ≡ t → keeps_read (cond t (after (expression (drop 1 s)) (λ e n. got (send (sent_tag (get_or s 0 0)) e) (1 + n))) (got (bare_action (get_or s 0 0)) 1)) ≡ cond t (limits_read (expression (drop 1 s))) true
unfolding keeps_read
keeps_go true s e = sent_keeps (expression (drop 1 s)) (sent_tag (get_or s 0 0))
keeps_go false s e = bare_keeps (get_or s 0 0)

keeps_by : (t : Bool) (known : ℕ → Bool) (s : List ℕ) (at end : ℕ) (r : Read Action) → end_from at (provided t r) ≡ Some end → keeps_read (provided t r) ≡ keeps_read r
unfolding provided end_from
keeps_by true known s at end r e = refl
keeps_by false known s at end r e = absurd cc

pub keeps_is : (known : ℕ → Bool) (s : List ℕ) (at end : ℕ) → end_from at (read_action known s) ≡ Some end → keeps_read (read_action known s) ≡ sent_limits s
unfolding read_action sent_limits
keeps_is known s at end e =
    keeps_by (ltb 0 (length s) && known (get_or s 0 0)) known s at end (cond (holds_expression (get_or s 0 0)) (after (expression (drop 1 s)) (λ e n. got (send (sent_tag (get_or s 0 0)) e) (1 + n))) (got (bare_action (get_or s 0 0)) 1)) e
    ∙ keeps_go (holds_expression (get_or s 0 0)) s refl

module _ (b : List ℕ) (at : ℕ) where
  pub sent_none : length b ≤ at → true ≡ sent_limits (drop at b)
  unfolding sent_limits holds_expression
  sent_none l = rw (head_at at b, get_or-eq_default b 0 l)

  module _ (c : ℕ) (h : c ≡ get_or b at 0) where
    pub sent_bare : holds_expression c ≡ false → true ≡ sent_limits (drop at b)
    unfolding sent_limits
    sent_bare e = rw (head_at at b, ← h, e)

    pub sent_sent : (r : Bool) → holds_expression c ≡ true → r ≡ limits_read (expression (drop (at + 1) b)) → r ≡ sent_limits (drop at b)
    unfolding sent_limits
    sent_sent r e g = rw (head_at at b, ← h, e, drop-drop 1 at b) g

  pub limits_absent : length b ≤ at → false ≡ limits_read (expression (drop at b))
  unfolding limits_read
  limits_absent l = rw (nothing_there b at l)

  pub limits_part : (u : List ℕ) (r : Bool) → u ≡ drop at b → r ≡ limits_read (expression u) → r ≡ limits_read (expression (drop at b))
  limits_part u r d e = e ∙ rw d
