-- Where patterns, expressions and actions end.
-- Assumes nothing.
use mathlib.Core.Path.{◌≡◌, refl, sym, ap, ◌∙◌}
use mathlib.Core.Bool.{Bool, true, false, cond}
use mathlib.Core.List.{List, ◌∷◌}
use Prim.Native.Nat.{ℕ, zero, suc, ◌+◌, ◌-◌, ◌≤◌, ◌<◌}
use native.Mathlib.Omega.{arith}
use lib.Dec.{leb, ltb}
use lib.ListN.{get_or, drop, take, length, length-drop}
use lib.Seq.{drop-drop, take_all}
use borrow.Author.Tests.{le-leb, lt-leb, lt-ltb, le-ltb, ltb-true, leb-true}
use Rattle.std.specs.Prelude.{Some, None}
use Rattle.model.specs.Expressions.{Exp, Read, bad, got, after, read_many, provided, expression}
use Rattle.model.specs.Rules.{send, sent_tag, bare_action, pattern_size, read_pattern, read_action, holds_expression}
use Rattle.model.proofs.Tests.{and_left, and_right, and₃}
use Rattle.expressions.specs.Reading.{end_from, is_read, skip_to}
use Rattle.expressions.proofs.Reading.{no_exp, no_head, skip_is}
use Rattle.expressions.proofs.Heads.{head_at}
use Rattle.rules.specs.Bodies.{any_code}

-- the part of a slice from an offset on
pub part_is : (s : List ℕ) (at : ℕ) → take (length s - at) (drop at s) ≡ drop at s
part_is s at = take_all (length s - at) (drop at s) (omega (arith, length-drop at s))

-- what is there was provided
is_read_lem : {A : Type 0} (t : Bool) (r : Read A) → is_read (provided t r) ≡ true → (t ≡ true) × (provided t r ≡ r)
unfolding is_read provided
is_read_lem true r e = (refl, refl)
is_read_lem false r e = absurd cc

-- ── one after another ────────────────────────────────────────────────────────────────────────

module _ {A : Type 0} (f : List ℕ → Read A) (b : List ℕ) where
  many_got : (r : Read (List A)) (a : A) (at n : ℕ) → end_from at (after r (λ rest m. got (a ∷ rest) (n + m))) ≡ end_from (at + n) r
  unfolding end_from after
  many_got bad a at n = refl
  many_got (got es m) a at n = ap Some (omega arith)

  step_go : (k at end : ℕ) (r : Read A) → end_from at r ≡ Some end → end_from at (after r (λ a n. after (read_many f k (drop n (drop at b))) (λ rest m. got (a ∷ rest) (n + m)))) ≡ end_from end (read_many f k (drop end b))
  unfolding end_from after
  step_go k at end bad e = absurd cc
  step_go k at end (got a n) e =
      let q : at + n ≡ end = cc in
      rw (drop-drop n at b) (many_got (read_many f k (drop (at + n) b)) a at n ∙ ap (λ (j : ℕ). end_from j (read_many f k (drop j b))) q)

  pub end_step : (k at end : ℕ) → 0 < k → end_from at (f (drop at b)) ≡ Some end → end_from at (read_many f k (drop at b)) ≡ end_from end (read_many f (k - 1) (drop end b))
  unfolding read_many
  end_step zero at end l e = absurd (omega arith)
  end_step (suc k) at end l e =
      let q : k ≡ suc k - 1 = omega arith in
      step_go k at end (f (drop at b)) e ∙ ap (λ (j : ℕ). end_from end (read_many f j (drop end b))) q

  bad_go : (k at : ℕ) (r : Read A) → end_from at r ≡ None → end_from at (after r (λ a n. after (read_many f k (drop n (drop at b))) (λ rest m. got (a ∷ rest) (n + m)))) ≡ None
  unfolding end_from after
  bad_go k at bad e = refl
  bad_go k at (got a n) e = absurd cc

  pub end_bad : (k at : ℕ) → 0 < k → end_from at (f (drop at b)) ≡ None → end_from at (read_many f k (drop at b)) ≡ None
  unfolding read_many
  end_bad zero at l e = absurd (omega arith)
  end_bad (suc k) at l e = bad_go k at (f (drop at b)) e

  pub end_none : (k at : ℕ) → k ≤ 0 → end_from at (read_many f k (drop at b)) ≡ Some at
  unfolding end_from read_many
  end_none zero at l = ap Some (omega arith)
  end_none (suc k) at l = absurd (omega arith)

-- ── a pattern ────────────────────────────────────────────────────────────────────────────────

module _ (known : ℕ → Bool) (b : List ℕ) (at : ℕ) where
  pub pattern_none : length b ≤ at → None ≡ end_from at (read_pattern known (drop at b))
  unfolding end_from read_pattern provided
  pattern_none l = rw (le-ltb 0 (length (drop at b)) (omega (arith, length-drop at b)))

  module _ (c : ℕ) (h : c ≡ get_or b at 0) (l : at < length b) where
    pub pattern_unknown : known c ≡ false → None ≡ end_from at (read_pattern known (drop at b))
    unfolding end_from read_pattern provided
    pattern_unknown k = rw (length-drop at b, lt-ltb 0 (length b - at) (omega arith), head_at at b, ← h, k)

    pub pattern_cut : known c ≡ true → length b - at < pattern_size c → None ≡ end_from at (read_pattern known (drop at b))
    unfolding end_from read_pattern provided
    pattern_cut k m = rw (length-drop at b, lt-ltb 0 (length b - at) (omega arith), head_at at b, ← h, k, lt-leb (pattern_size c) (length b - at) m)

    pub pattern_whole : known c ≡ true → pattern_size c ≤ length b - at → Some (at + pattern_size c) ≡ end_from at (read_pattern known (drop at b))
    unfolding end_from read_pattern provided
    pattern_whole k m = rw (length-drop at b, lt-ltb 0 (length b - at) (omega arith), head_at at b, ← h, k, le-leb (pattern_size c) (length b - at) m)

-- one that is there, by any list of codes, is there by every code, and ends there
module _ (known : ℕ → Bool) (b : List ℕ) (at : ℕ) (h : is_read (read_pattern known (drop at b)) ≡ true) where
  same-pattern : read_pattern any_code (drop at b) ≡ read_pattern known (drop at b)
  unfolding read_pattern any_code
  same-pattern = rw (and₃ (ltb 0 (length (drop at b))) (known (get_or (drop at b) 0 0)) _ (is_read_lem _ _ h).0).1

  pub pattern_there : is_read (read_pattern any_code (drop at b)) ≡ true
  pattern_there = rw same-pattern h

  pub pattern_skip : (r : ℕ) → r ≡ skip_to at (read_pattern any_code (drop at b)) → end_from at (read_pattern known (drop at b)) ≡ Some r
  pattern_skip r e = skip_is at (read_pattern known (drop at b)) h ∙ ap Some (sym (e ∙ ap (skip_to at) same-pattern))

-- it takes as many bytes as its code says
module _ (b : List ℕ) (at : ℕ) (h : is_read (read_pattern any_code (drop at b)) ≡ true) where
  pub pattern_whole_there : (at < length b) × (at + pattern_size (get_or b at 0) ≤ length b)
  unfolding read_pattern
  pattern_whole_there =
      let t = and₃ (ltb 0 (length (drop at b))) (any_code (get_or (drop at b) 0 0)) (leb (pattern_size (get_or (drop at b) 0 0)) (length (drop at b))) (is_read_lem _ _ h).0 in
      let n = leb-true (pattern_size (get_or (drop at b) 0 0)) (length (drop at b)) t.2 in
      let l = ltb-true 0 (length (drop at b)) t.0 in
      (omega (arith, length-drop at b, l), omega (arith, length-drop at b, l, n, ap pattern_size (head_at at b)))

  pub pattern_ends : at + pattern_size (get_or b at 0) ≡ skip_to at (read_pattern any_code (drop at b))
  unfolding read_pattern skip_to
  pattern_ends = rw ((is_read_lem _ _ h).1, head_at at b)

-- ── an expression ────────────────────────────────────────────────────────────────────────────

pub nothing_there : (b : List ℕ) (at : ℕ) → length b ≤ at → expression (drop at b) ≡ bad
nothing_there b at l = no_exp (drop at b) (no_head (drop at b) (omega (arith, length-drop at b)))

pub exp_none : (b : List ℕ) (at : ℕ) → length b ≤ at → None ≡ end_from at (expression (drop at b))
unfolding end_from
exp_none b at l = rw (nothing_there b at l)

-- ── an action ────────────────────────────────────────────────────────────────────────────────

sent_end : (r : Read Exp) (at tag : ℕ) → end_from (at + 1) r ≡ end_from at (after r (λ e n. got (send tag e) (1 + n)))
unfolding end_from after
sent_end bad at tag = refl
sent_end (got e n) at tag = ap Some (omega arith)

module _ (known : ℕ → Bool) (b : List ℕ) (at : ℕ) where
  pub action_none : length b ≤ at → None ≡ end_from at (read_action known (drop at b))
  unfolding end_from read_action provided
  action_none l = rw (le-ltb 0 (length (drop at b)) (omega (arith, length-drop at b)))

  module _ (c : ℕ) (h : c ≡ get_or b at 0) (l : at < length b) where
    pub action_unknown : known c ≡ false → None ≡ end_from at (read_action known (drop at b))
    unfolding end_from read_action provided
    action_unknown k = rw (length-drop at b, lt-ltb 0 (length b - at) (omega arith), head_at at b, ← h, k)

    pub action_sent : known c ≡ true → holds_expression c ≡ true → end_from (at + 1) (expression (drop (at + 1) b)) ≡ end_from at (read_action known (drop at b))
    unfolding read_action provided
    action_sent k e = rw (length-drop at b, lt-ltb 0 (length b - at) (omega arith), head_at at b, ← h, k, e, drop-drop 1 at b) (sent_end (expression (drop (at + 1) b)) at (sent_tag c))

    pub action_bare : known c ≡ true → holds_expression c ≡ false → Some (at + 1) ≡ end_from at (read_action known (drop at b))
    unfolding end_from read_action provided
    action_bare k e = rw (length-drop at b, lt-ltb 0 (length b - at) (omega arith), head_at at b, ← h, k, e)

-- an action that is there, by any list of codes, is there by every code, and ends there
module _ (known : ℕ → Bool) (b : List ℕ) (at : ℕ) (h : is_read (read_action known (drop at b)) ≡ true) where
  same_action : read_action any_code (drop at b) ≡ read_action known (drop at b)
  unfolding read_action any_code
  same_action = rw (and_right (ltb 0 (length (drop at b))) (known (get_or (drop at b) 0 0)) (is_read_lem _ _ h).0)

  pub action_there : is_read (read_action any_code (drop at b)) ≡ true
  action_there = rw same_action h

  pub action_skip : (r : ℕ) → r ≡ skip_to at (read_action any_code (drop at b)) → end_from at (read_action known (drop at b)) ≡ Some r
  action_skip r e = skip_is at (read_action known (drop at b)) h ∙ ap Some (sym (e ∙ ap (skip_to at) same_action))

-- where an action that is there ends, by its code
module _ (b : List ℕ) (at c : ℕ) (h : is_read (read_action any_code (drop at b)) ≡ true) (q : c ≡ get_or b at 0) where
  its_parts : read_action any_code (drop at b) ≡ cond (holds_expression c) (after (expression (drop (at + 1) b)) (λ e n. got (send (sent_tag c) e) (1 + n))) (got (bare_action c) 1)
  unfolding read_action
  its_parts = (is_read_lem _ _ h).1 ∙ rw (head_at at b, ← q, drop-drop 1 at b)

  pub action_inside : at < length b
  unfolding read_action
  action_inside = omega (arith, length-drop at b, ltb-true 0 (length (drop at b)) (and_left (ltb 0 (length (drop at b))) (any_code (get_or (drop at b) 0 0)) (is_read_lem _ _ h).0))

  module _ (e : holds_expression c ≡ true) where
    sent_is : read_action any_code (drop at b) ≡ after (expression (drop (at + 1) b)) (λ e n. got (send (sent_tag c) e) (1 + n))
    sent_is = its_parts ∙ rw e

    pub sent_there : is_read (expression (drop (at + 1) b)) ≡ true
    unfolding is_read after
    sent_there = go (expression (drop (at + 1) b)) (sym (ap is_read sent_is) ∙ h)
      where
        go : (r : Read Exp) → is_read (after r (λ e n. got (send (sent_tag c) e) (1 + n))) ≡ true → is_read r ≡ true
        go bad e = e
        go (got x n) e = refl

    pub sent_skip : skip_to (at + 1) (expression (drop (at + 1) b)) ≡ skip_to at (read_action any_code (drop at b))
    unfolding is_read after skip_to
    sent_skip = go (expression (drop (at + 1) b)) sent_there ∙ sym (ap (skip_to at) sent_is)
      where
        go : (r : Read Exp) → is_read r ≡ true → skip_to (at + 1) r ≡ skip_to at (after r (λ e n. got (send (sent_tag c) e) (1 + n)))
        go bad e = absurd cc
        go (got x n) e = omega arith

  pub bare_skip : holds_expression c ≡ false → at + 1 ≡ skip_to at (read_action any_code (drop at b))
  unfolding skip_to
  bare_skip e = rw (its_parts, e)
