-- Actions and the types that they fill.
-- Assumes nothing.
use mathlib.Core.Path.{◌≡◌, refl, sym, ap, ◌∙◌}
use mathlib.Core.Bool.{Bool, true, false, cond, ◌&&◌}
use mathlib.Core.List.{List}
use Prim.Native.Nat.{ℕ, zero, suc, ◌+◌, ◌-◌, ◌*◌, ◌≤◌, ◌<◌}
use native.Mathlib.Omega.{arith}
use lib.Dec.{ltb, eqb}
use lib.ListN.{get_or, drop, length}
use lib.Seq.{drop-drop}
use borrow.Author.Tests.{lt-leb, ltb-true, ltb-false, ne_eqb}
use Rattle.model.specs.declared.Ty.{Ty}
use Rattle.model.specs.Expressions.{Exp, Read, bad, got, after, read_many, provided, expression, size_of, type_at, Scope}
use Rattle.model.specs.NetworkFile.{tabulate}
use Rattle.model.specs.Rules.{Action, nothing, bare, send, bare_action, sent_tag, holds_expression, read_action, output_action, variable_action, Fit, fits, fails, also, fit_if, tag_fits, action_fits, size_of_action, actions_fit}
use Rattle.model.proofs.Tests.{and_right}
use Rattle.expressions.specs.Reading.{limits_read, end_from, is_read, skip_to}
use Rattle.expressions.proofs.Heads.{head_at}
use Rattle.expressions.proofs.Parts.{size_is}
use Rattle.shapes.specs.Shapes.{types_in}
use Rattle.rules.specs.Bodies.{action_codes, any_code, actions_from, sent_limits, limits_of}
use Rattle.rules.proofs.Ends.{action_none, action_there, action_skip, action_inside as inside}
use Rattle.rules.proofs.Keeping.{keeps_read, keeps_is, limits_step, limits_fail}
use Rattle.std.specs.Prelude.{Ok, Err, Some, None}
use Rattle.typing.specs.Fits.{fitting_of, list_read, exp_read, action_at}
use Rattle.typing.proofs.Peeling.{types_from, types_all, types_more, Peel, peel, first_read, wider, is_provided}
use Rattle.typing.proofs.Patterns.{minus_zero}

-- ── by its code ──────────────────────────────────────────────────────────────────────────────

module _ (sc : Scope) (b : List ℕ) (at : ℕ) (t : Ty) (c : ℕ) (h : c ≡ get_or b at 0) where
  code_at : get_or (drop at b) 0 0 ≡ c
  code_at = head_at at b ∙ sym h

  pub act_none : c ≡ 0 → Ok tt ≡ fitting_of (action_fits sc at t (action_at (drop at b)))
  unfolding action_at holds_expression bare_action action_fits fitting_of
  act_none e = rw (code_at, e)

  pub act_sent : (tag : ℕ) → holds_expression c ≡ true → tag ≡ sent_tag c → action_fits sc at t (send tag (exp_read (expression (drop (at + 1) b)))) ≡ action_fits sc at t (action_at (drop at b))
  unfolding action_at
  act_sent tag e g = rw (code_at, e, g, drop-drop 1 at b)

  pub act_bare : (q : Bool) → (c ≡ 0 → ⊥) → holds_expression c ≡ false → q ≡ tag_fits t (c - 2) → fit_if q at ≡ action_fits sc at t (action_at (drop at b))
  unfolding action_at bare_action action_fits
  act_bare q n e g = rw (code_at, e, ne_eqb c 0 n, g)

  -- what is sent keeps the limits
  pub act_limits : holds_expression c ≡ true → sent_limits (drop at b) ≡ true → limits_read (expression (drop (at + 1) b)) ≡ true
  unfolding sent_limits
  act_limits e g = rw (code_at, e, drop-drop 1 at b) at g

pub holds_one : (c : ℕ) → c ≡ 1 → (holds_expression c ≡ true) × (0 ≡ sent_tag c)
unfolding holds_expression sent_tag
holds_one c e = rw e (refl, refl)

pub holds_five : (c : ℕ) → c ≡ 5 → (holds_expression c ≡ true) × (3 ≡ sent_tag c)
unfolding holds_expression sent_tag
holds_five c e = rw e (refl, refl)

pub holds_none : (c : ℕ) → (c ≡ 1 → ⊥) → (c ≡ 5 → ⊥) → holds_expression c ≡ false
unfolding holds_expression
holds_none c n m = rw (ne_eqb c 1 n, ne_eqb c 5 m)

-- ── as it is read ────────────────────────────────────────────────────────────────────────────

sent_size : (tag m : ℕ) (y : Exp) → size_of y ≡ m → size_of_action (send tag y) ≡ 1 + m
unfolding size_of_action
sent_size tag m y e = rw e

sent_read : (s : List ℕ) (r : Read Exp) (tag : ℕ) {x : Action} {n : ℕ} → expression s ≡ r → after r (λ e m. got (send tag e) (1 + m)) ≡ got x n → (x ≡ send tag (exp_read r)) × (size_of_action x ≡ n)
unfolding after exp_read
sent_read s bad tag q e = cc
sent_read s (got y m) tag {x} {n} q e =
    let w : x ≡ send tag y = cc in
    let v : 1 + m ≡ n = cc in
    (w, ap size_of_action w ∙ sent_size tag m y (size_is s q) ∙ v)

bare_size : (c : ℕ) → size_of_action (bare_action c) ≡ 1
unfolding bare_action size_of_action
bare_size c = go (eqb c 0)
  where
    go : (t : Bool) → size_of_action (cond t nothing (bare (c - 2))) ≡ 1
    go true = refl
    go false = refl

read_by : (t : Bool) (s : List ℕ) {x : Action} {n : ℕ} → holds_expression (get_or s 0 0) ≡ t → cond t (after (expression (drop 1 s)) (λ e m. got (send (sent_tag (get_or s 0 0)) e) (1 + m))) (got (bare_action (get_or s 0 0)) 1) ≡ got x n → (x ≡ action_at s) × (size_of_action x ≡ n)
unfolding action_at
read_by true s q e = rw q (sent_read (drop 1 s) (expression (drop 1 s)) (sent_tag (get_or s 0 0)) refl e)
read_by false s {x} {n} q e =
    let w : x ≡ bare_action (get_or s 0 0) = cc in
    let v : 1 ≡ n = cc in
    rw q (w, ap size_of_action w ∙ bare_size (get_or s 0 0) ∙ v)

given : (t : Bool) (r : Read Action) {x : Action} {n : ℕ} → provided t r ≡ got x n → r ≡ got x n
unfolding provided
given true r e = e
given false r e = cc

pub action_read : (known : ℕ → Bool) (s : List ℕ) {x : Action} {n : ℕ} → read_action known s ≡ got x n → (x ≡ action_at s) × (size_of_action x ≡ n)
unfolding read_action
action_read known s e = read_by (holds_expression (get_or s 0 0)) s refl (given (ltb 0 (length s) && known (get_or s 0 0)) _ e)

pub action_inside : (v : Bool) (b : List ℕ) (at end : ℕ) → end_from at (read_action (action_codes v) (drop at b)) ≡ Some end → at < length b
action_inside v b at end e = go (ltb at (length b)) refl
  where
    go : (t : Bool) → ltb at (length b) ≡ t → at < length b
    go true q = ltb-true at (length b) q
    go false q = let w : None ≡ Some end = action_none (action_codes v) b at (ltb-false at (length b) q) ∙ e in cc

-- ── one after another ────────────────────────────────────────────────────────────────────────

pub limits_read_lem : (r : Read (List Action)) → limits_of r ≡ true → is_read r ≡ true
unfolding limits_of is_read
limits_read_lem bad e = e
limits_read_lem (got xs n) e = refl

-- what can be a variable's can be an output's
variable_output : (c : ℕ) → action_codes true c ≡ true → action_codes false c ≡ true
unfolding action_codes variable_action output_action
variable_output zero e = refl
variable_output (suc zero) e = refl
variable_output (suc (suc c)) e = let u : false ≡ true = rw (lt-leb (suc (suc c)) 1 (omega arith)) at e in cc

action_wider : (s : List ℕ) → is_read (read_action (action_codes true) s) ≡ true → read_action (action_codes false) s ≡ read_action (action_codes true) s
unfolding read_action
action_wider s e =
    let c = get_or s 0 0 in
    let k = and_right (ltb 0 (length s)) (action_codes true c) (is_provided _ _ e) in
    rw (k, variable_output c k)

pub outputs_too : (n at : ℕ) (b : List ℕ) → is_read (actions_from true n at b) ≡ true → actions_from false n at b ≡ actions_from true n at b
unfolding actions_from
outputs_too n at b e = wider (read_action (action_codes true)) (read_action (action_codes false)) action_wider n (drop at b) e

-- the first of those that are there, and where it ends
module _ (v : Bool) (b : List ℕ) (k at : ℕ) (h : 0 < k) (r : is_read (actions_from v k at b) ≡ true) where
  first : is_read (read_action (action_codes v) (drop at b)) ≡ true
  unfolding actions_from
  first = first_read (read_action (action_codes v)) b k at h r

  pub action_first : is_read (read_action any_code (drop at b)) ≡ true
  action_first = action_there (action_codes v) b at first

  pub action_within : at < length b
  action_within = inside b at (get_or b at 0) action_first refl

  pub action_next : (end : ℕ) → end ≡ skip_to at (read_action any_code (drop at b)) → end_from at (read_action (action_codes v) (drop at b)) ≡ Some end
  action_next = action_skip (action_codes v) b at first

module _ (v : Bool) (b : List ℕ) where
  module _ (k at end : ℕ) (h : 0 < k) (l : limits_of (actions_from v k at b) ≡ true) (g : end_from at (read_action (action_codes v) (drop at b)) ≡ Some end) where
    first_go : (t : Bool) → keeps_read (read_action (action_codes v) (drop at b)) ≡ t → (sent_limits (drop at b) ≡ true) × (limits_of (actions_from v (k - 1) end b) ≡ true)
    unfolding actions_from
    first_go true e = (sym (keeps_is (action_codes v) (drop at b) at end g) ∙ e, sym (limits_step (read_action (action_codes v)) b k at end h g e) ∙ l)
    first_go false e = let z : false ≡ true = sym (limits_fail (read_action (action_codes v)) b k at h e) ∙ l in cc

    pub first_limits : (sent_limits (drop at b) ≡ true) × (limits_of (actions_from v (k - 1) end b) ≡ true)
    first_limits = first_go (keeps_read (read_action (action_codes v) (drop at b))) refl

  module _ (sc : Scope) (types : List ℕ) (n : ℕ) where
    -- what is left to fit, and all of it
    abbrev pub left_acts : ℕ → ℕ → Fit
    left_acts k at = actions_fit sc at (types_from types k (n - k)) (list_read (actions_from v (n - k) at b))

    abbrev pub all_acts : ℕ → Fit
    all_acts from = actions_fit sc from (types_in types n) (list_read (actions_from v n from b))

    pub acts_start : (from : ℕ) → left_acts 0 from ≡ all_acts from
    acts_start from = rw (minus_zero n, types_all types n)

    pub acts_end : (k at : ℕ) → n ≤ k → left_acts k at ≡ fits
    unfolding actions_fit types_from tabulate actions_from read_many list_read
    acts_end k at h = let q : n - k ≡ 0 = omega arith in rw q

    acts_peeled : (k at end : ℕ) → k < n → Peel (read_action (action_codes v)) b (n - k) at end → left_acts k at ≡ also (action_fits sc at (type_at types (2 * k)) (action_at (drop at b))) (left_acts (k + 1) end)
    unfolding actions_from actions_fit
    acts_peeled k at end h x =
        let q : n - k - 1 ≡ n - (k + 1) = omega arith in
        let w = action_read (action_codes v) (drop at b) x.first.read in
        let g : at + size_of_action x.first.thing ≡ end = ap (λ (j : ℕ). at + j) w.1 ∙ sym x.first.ends in
        rw (x.list, types_more types k n h) (rw (g, w.0, q))

    module _ (k at end : ℕ) (t : Ty) (h : k < n) (l : limits_of (actions_from v (n - k) at b) ≡ true) (g : end_from at (read_action (action_codes v) (drop at b)) ≡ Some end) (q : t ≡ type_at types (2 * k)) where
      acts_one : left_acts k at ≡ also (action_fits sc at t (action_at (drop at b))) (left_acts (k + 1) end)
      unfolding actions_from
      acts_one = acts_peeled k at end h (peel (read_action (action_codes v)) b (n - k) at end (omega arith) (limits_read_lem (read_many (read_action (action_codes v)) (n - k) (drop at b)) l) g) ∙ rw q

      fail_go : (f : Fit) (j : ℕ) → Err j ≡ fitting_of f → (y : Fit) → Err j ≡ fitting_of (also f y)
      unfolding fitting_of also
      fail_go fits j e y = cc
      fail_go (fails i) j e y = e

      pub acts_fail : (j : ℕ) {w : Fit} → Err j ≡ fitting_of (action_fits sc at t (action_at (drop at b))) → left_acts k at ≡ w → Err j ≡ fitting_of w
      acts_fail j e i = fail_go (action_fits sc at t (action_at (drop at b))) j e (left_acts (k + 1) end) ∙ ap fitting_of (sym acts_one ∙ i)

      more_go : (f : Fit) → Ok tt ≡ fitting_of f → (y : Fit) → also f y ≡ y
      unfolding fitting_of also
      more_go fits e y = refl
      more_go (fails i) e y = cc

      pub acts_more : {w : Fit} → Ok tt ≡ fitting_of (action_fits sc at t (action_at (drop at b))) → left_acts k at ≡ w → left_acts (k + 1) end ≡ w
      acts_more e i = sym (more_go (action_fits sc at t (action_at (drop at b))) e (left_acts (k + 1) end)) ∙ sym acts_one ∙ i

      pub acts_limits : limits_of (actions_from v (n - (k + 1)) end b) ≡ true
      acts_limits = let q : n - k - 1 ≡ n - (k + 1) = omega arith in rw q at (first_limits (n - k) at end (omega arith) l g).1
