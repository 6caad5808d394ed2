use mathlib.Core.Path.{refl, sym, ap, ◌∙◌}
use mathlib.Core.Bool.{false}
use Prim.Native.Nat.{◌-◌, ◌<◌}
use native.Mathlib.Omega.{arith}
use Rattle.std.proofs.lemmas.Result.{err_from_is_err_and}
use Rattle.types.specs.Scopes.{scope_in}
use Rattle.rules.specs.Bodies.{actions_from, limits_of}
use Rattle.typing.specs.Fits.{fitting_of}
use Rattle.typing.proofs.Patterns.{minus_zero}
use Rattle.typing.proofs.Actions.{acts_start, acts_fail, acts_more, acts_end, acts_limits, first_limits, limits_read_lem, action_first, action_within, action_next}
use Rattle.typing.proofs.actions_fit.Goals as goal

pub loop-k-init : goal.loop-k-init
loop-k-init c =
    let a = c.args in
    record {
      limits = ap (λ j. limits_of (actions_from false j a.from a.b.now)) (minus_zero a.n) ∙ c.requires.b_value;
      left = acts_start false a.b.now (scope_in a.types.now) a.table.now a.n a.from;
    }

pub action_fits-requires : goal.action_fits-requires
action_fits-requires c =
    let a = c.args in
    let i = c.loop-k in
    let there = limits_read_lem _ i.invariant.limits in
    record {
      at_in_bounds = action_within false a.b.now (a.n - i.k) i.at (omega arith) there;
      b_value = (first_limits false a.b.now (a.n - i.k) i.at _ (omega arith) i.invariant.limits (action_next false a.b.now (a.n - i.k) i.at (omega arith) there _ refl)).0;
    }

pub returns-in_err-action_fits : goal.returns-in_err-action_fits
returns-in_err-action_fits c =
    let a = c.args in
    let i = c.loop-k in
    let m : i.k < a.n = omega arith in
    let there = limits_read_lem _ i.invariant.limits in
    let e = action_next false a.b.now (a.n - i.k) i.at (omega arith) there _ refl in
    let p = err_from_is_err_and c.from_residual.result c.from_residual.ensures.1 in
    let f = sym c.in_err-action_fits.was ∙ c.action_fits.ensures in
    rw (p.1, p.2) (acts_fail false a.b.now (scope_in a.types.now) a.table.now a.n i.k i.at _ _ m i.invariant.limits e c.entry.ensures _ f i.invariant.left)

pub skip_action-at-requires : goal.skip_action-at-requires
skip_action-at-requires c =
    let i = c.loop-k in
    action_first false c.args.b.now (c.args.n - i.k) i.at (omega arith) (limits_read_lem _ i.invariant.limits)

pub loop-k-preserved : goal.loop-k-preserved
loop-k-preserved c =
    let a = c.args in
    let i = c.loop-k in
    let m : i.k < a.n = omega arith in
    let there = limits_read_lem _ i.invariant.limits in
    let e = action_next false a.b.now (a.n - i.k) i.at (omega arith) there _ c.skip_action-at.ensures in
    let f = sym c.in_ok-action_fits.was ∙ c.action_fits.ensures in
    record {
      limits = acts_limits false a.b.now (scope_in a.types.now) a.table.now a.n i.k i.at _ _ m i.invariant.limits e c.entry.ensures;
      left = acts_more false a.b.now (scope_in a.types.now) a.table.now a.n i.k i.at _ _ m i.invariant.limits e c.entry.ensures f i.invariant.left;
    }

pub returns : goal.returns
unfolding fitting_of
returns c =
    let a = c.args in
    let i = c.loop-k in
    ap fitting_of (sym (acts_end false a.b.now (scope_in a.types.now) a.table.now a.n i.k i.at (omega arith)) ∙ i.invariant.left)
