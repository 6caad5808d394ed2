-- The limits of a rule, action by action and as a whole.
-- Assumes nothing.
use mathlib.Core.Path.{◌≡◌, refl, sym, ap, ◌∙◌}
use mathlib.Core.Bool.{Bool, true, false, ◌&&◌}
use mathlib.Core.List.{List, [], ◌∷◌}
use Prim.Native.Nat.{ℕ, ◌+◌, ◌-◌, ◌≤◌, ◌<◌}
use native.Mathlib.Omega.{arith}
use lib.Dec.{leb, ltb}
use lib.ListN.{drop, length}
use borrow.Author.Tests.{le-leb, lt-leb, lt-ltb, le-ltb}
use Rattle.model.specs.Expressions.{Read, read_many, expression, expression_limits}
use Rattle.model.specs.Rules.{Action, nothing, bare, send, read_action, read_rule, rule_read, Rule, action_limits, size_of_action, Fit, fits, fails, also, fit_if, is_fit}
use Rattle.model.specs.NetworkFile.{rule_limits}
use Rattle.expressions.specs.Reading.{limits_read, end_from, is_read}
use Rattle.shapes.specs.declared.Arity.{Arity}
use Rattle.rules.specs.declared.Parts.{Parts}
use Rattle.rules.specs.Bodies.{action_codes, actions_from, sent_limits, layout_of}
use Rattle.rules.proofs.Keeping.{keeps, keeps_more, keeps_read, keeps_is}
use Rattle.rules.proofs.Laying.{Laid, laid, rule_is, rule_read_lem}
use Rattle.std.specs.Prelude.{Ok, Err, Some}
use Rattle.typing.specs.Fits.{fitting_of, list_read}
use Rattle.typing.specs.Limits.{action_keeps, actions_keep, rule_keeps}
use Rattle.typing.proofs.Peeling.{Peel, peel}
use Rattle.typing.proofs.Actions.{action_read, outputs_too}
use Rattle.typing.proofs.Wholes.{at_vars, at_guard, at_outs, at_sets, also_fail, also_on}

-- ── one action after another ─────────────────────────────────────────────────────────────────

keeps_one : (at : ℕ) (x : Action) → action_keeps at x ≡ fit_if (keeps x) (at + 1)
unfolding action_keeps keeps fit_if
keeps_one at nothing = refl
keeps_one at (bare tag) = refl
keeps_one at (send tag e) = refl

module _ (v : Bool) (b : List ℕ) where
  -- what is left to keep the limits
  abbrev pub left_keep : ℕ → ℕ → Fit
  left_keep k at = actions_keep at (list_read (actions_from v k at b))

  pub keep_none : (k at : ℕ) → k ≤ 0 → left_keep k at ≡ fits
  unfolding actions_keep actions_from read_many list_read
  keep_none k at h = let q : k ≡ 0 = omega arith in rw q

  module _ (k at end : ℕ) (h : 0 < k) (r : is_read (actions_from v k at b) ≡ true) (g : end_from at (read_action (action_codes v) (drop at b)) ≡ Some end) where
    peeled : Peel (read_action (action_codes v)) b k at end
    unfolding actions_from
    peeled = peel (read_action (action_codes v)) b k at end h r g

    first_keeps : keeps peeled.first.thing ≡ sent_limits (drop at b)
    unfolding keeps_read
    first_keeps = sym (ap keeps_read peeled.first.read) ∙ keeps_is (action_codes v) (drop at b) at end g

    keep_first : left_keep k at ≡ also (fit_if (sent_limits (drop at b)) (at + 1)) (left_keep (k - 1) end)
    unfolding actions_from actions_keep
    keep_first =
        let w = action_read (action_codes v) (drop at b) peeled.first.read in
        let e : at + size_of_action peeled.first.thing ≡ end = ap (λ (j : ℕ). at + j) w.1 ∙ sym peeled.first.ends in
        ap (actions_keep at) peeled.list ∙ rw (e, keeps_one at peeled.first.thing, first_keeps)

    pub keep_read : is_read (actions_from v (k - 1) end b) ≡ true
    unfolding actions_from
    keep_read = peeled.rest

    pub keep_fail : {w : Fit} → sent_limits (drop at b) ≡ false → left_keep k at ≡ w → Err (at + 1) ≡ fitting_of w
    unfolding fitting_of also fit_if
    keep_fail e i = let w : left_keep k at ≡ fails (at + 1) = keep_first ∙ rw e in ap fitting_of (sym w ∙ i)

    pub keep_more : {w : Fit} → sent_limits (drop at b) ≡ true → left_keep k at ≡ w → left_keep (k - 1) end ≡ w
    unfolding also fit_if
    keep_more e i = sym (keep_first ∙ rw e) ∙ i

-- ── the ways out of the whole check ──────────────────────────────────────────────────────────

module _ (a : Arity) (b : List ℕ) (p : Parts) (whole : layout_of a b ≡ Some p) (seen : ℕ) where
  abbrev x : Laid a b p
  x = laid a b p whole

  abbrev Said : Fit
  Said = rule_keeps seen b (rule_read (read_rule a.ins a.outs a.vars b))

  laid_keeps : Said
      ≡ also (fit_if (ltb seen 16 && leb (length b) 512) 0)
      (also (fit_if (limits_read (expression (drop p.guard b))) p.guard)
      (also (left_keep false b a.outs p.outs)
      (left_keep true b a.vars p.sets)))
  unfolding rule_keeps rule_read rule_is limits_read list_read
  laid_keeps = rw (rule_read_lem x, at_vars x, at_guard x, at_outs x, at_sets x, x.guard.read, x.outs.read, x.sets.read)

  pub outs_read : is_read (actions_from false a.outs p.outs b) ≡ true
  unfolding is_read
  outs_read = rw x.outs.read

  sets_read : is_read (actions_from true a.vars p.sets b) ≡ true
  unfolding is_read
  sets_read = rw x.sets.read

  pub sets_there : is_read (actions_from false a.vars p.sets b) ≡ true
  sets_there = ap is_read (outputs_too a.vars p.sets b sets_read) ∙ sets_read

  pub many_rules : 16 ≤ seen → Err 0 ≡ fitting_of Said
  unfolding fitting_of also fit_if
  many_rules h = let w : Said ≡ fails 0 = laid_keeps ∙ rw (le-ltb seen 16 h) in ap fitting_of (sym w)

  pub long_body : seen < 16 → 512 < length b → Err 0 ≡ fitting_of Said
  unfolding fitting_of also fit_if
  long_body h l = let w : Said ≡ fails 0 = laid_keeps ∙ rw (lt-ltb seen 16 h, lt-leb (length b) 512 l) in ap fitting_of (sym w)

  module _ (h : seen < 16) (l : length b ≤ 512) where
    pub guard_over : limits_read (expression (drop p.guard b)) ≡ false → Err p.guard ≡ fitting_of Said
    unfolding fitting_of also fit_if
    guard_over g = let w : Said ≡ fails p.guard = laid_keeps ∙ rw (lt-ltb seen 16 h, le-leb (length b) 512 l, g) in ap fitting_of (sym w)

    module _ (g : limits_read (expression (drop p.guard b)) ≡ true) where
      actions_left : Said ≡ also (left_keep false b a.outs p.outs) (left_keep true b a.vars p.sets)
      unfolding also fit_if
      actions_left = laid_keeps ∙ rw (lt-ltb seen 16 h, le-leb (length b) 512 l, g)

      pub sent_over : (j : ℕ) → Err j ≡ fitting_of (left_keep false b a.outs p.outs) → Err j ≡ fitting_of Said
      sent_over j e = also_fail _ (left_keep true b a.vars p.sets) j e ∙ ap fitting_of (sym actions_left)

      pub sets_left : Ok tt ≡ fitting_of (left_keep false b a.outs p.outs) → fitting_of (left_keep false b a.vars p.sets) ≡ fitting_of Said
      sets_left e = ap fitting_of (ap (λ (r : Read (List Action)). actions_keep p.sets (list_read r)) (outputs_too a.vars p.sets b sets_read) ∙ sym (actions_left ∙ also_on _ _ e))

-- ── the same as a test ───────────────────────────────────────────────────────────────────────

fit-also : (f g : Fit) → is_fit (also f g) ≡ (is_fit f && is_fit g)
unfolding is_fit also
fit-also fits g = refl
fit-also (fails k) g = refl

pub fit-if : (t : Bool) (k : ℕ) → is_fit (fit_if t k) ≡ t
unfolding is_fit fit_if
fit-if true k = refl
fit-if false k = refl

acts_keep : (at : ℕ) (xs : List Action) → is_fit (actions_keep at xs) ≡ action_limits xs
unfolding actions_keep is_fit action_limits
acts_keep at [] = refl
acts_keep at (x ∷ xs) =
    fit-also (action_keeps at x) (actions_keep (at + size_of_action x) xs)
    ∙ rw (keeps_one at x, fit-if (keeps x) (at + 1), acts_keep (at + size_of_action x) xs) (sym (keeps_more x xs))

and_four : (a b c d e : Bool) → (a && b && (c && (d && e))) ≡ (a && b && c && d && e)
and_four true true true d e = refl
and_four true true false d e = refl
and_four true false c d e = refl
and_four false b c d e = refl

-- a rule keeps the limits where nothing fails
pub keeps_test : (seen : ℕ) (b : List ℕ) (r : Rule) → is_fit (rule_keeps seen b r) ≡ rule_limits seen b r
unfolding rule_keeps rule_limits
keeps_test seen b r =
    fit-also _ _
    ∙ rw (fit-if (ltb seen 16 && leb (length b) 512) 0)
    (rw (fit-also (fit_if (expression_limits r.guard) _) (also (actions_keep _ r.outs) (actions_keep _ r.sets)))
    (rw (fit-also (actions_keep _ r.outs) (actions_keep _ r.sets), fit-if (expression_limits r.guard) _, acts_keep _ r.outs, acts_keep _ r.sets)
    (and_four (ltb seen 16) (leb (length b) 512) (expression_limits r.guard) (action_limits r.outs) (action_limits r.sets))))
