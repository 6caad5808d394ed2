use mathlib.Core.Path.{◌≡◌, refl, sym, ap, ◌∙◌}
use mathlib.Core.Bool.{false}
use Prim.Native.Nat.{◌+◌, ◌-◌}
use native.Mathlib.Omega.{arith}
use Rattle.expressions.specs.Reading.{is_read}
use Rattle.rules.specs.Bodies.{actions_from}
use Rattle.typing.specs.Fits.{fitting_of}
use Rattle.typing.proofs.Actions.{action_first, action_within, action_next}
use Rattle.typing.proofs.Keeping.{left_keep, keep_none, keep_read, keep_fail, keep_more}
use Rattle.typing.proofs.actions_keep.Goals as goal

pub overflow_add-result : goal.overflow_add-result
overflow_add-result c =
    let a = c.args in
    let i = c.loop in
    omega (arith, action_within false a.b.now (a.n - i.counter) i.at (omega arith) i.invariant.there)

pub returns-then-not-action_limits : goal.returns-then-not-action_limits
returns-then-not-action_limits c =
    let a = c.args in
    let i = c.loop in
    let e = action_next false a.b.now (a.n - i.counter) i.at (omega arith) i.invariant.there _ refl in
    keep_fail false a.b.now (a.n - i.counter) i.at _ (omega arith) i.invariant.there e (sym c.action_limits.ensures ∙ c.if-not-action_limits.true) i.invariant.left

pub skip_action-at-requires : goal.skip_action-at-requires
skip_action-at-requires c =
    let i = c.loop in
    action_first false c.args.b.now (c.args.n - i.counter) i.at (omega arith) i.invariant.there

pub loop-preserved : goal.loop-preserved
loop-preserved c =
    let a = c.args in
    let i = c.loop in
    let e = action_next false a.b.now (a.n - i.counter) i.at (omega arith) i.invariant.there _ c.skip_action-at.ensures in
    let q : a.n - (i.counter + 1) ≡ a.n - i.counter - 1 = omega arith in
    let k = sym c.action_limits.ensures ∙ c.if-not-action_limits.false in
    record {
      there = ap (λ j. is_read (actions_from false j c.skip_action-at.result a.b.now)) q ∙ keep_read false a.b.now (a.n - i.counter) i.at _ (omega arith) i.invariant.there e;
      left = ap (λ j. left_keep false a.b.now j c.skip_action-at.result) q ∙ keep_more false a.b.now (a.n - i.counter) i.at _ (omega arith) i.invariant.there e k i.invariant.left;
    }

pub returns : goal.returns
unfolding fitting_of
returns c =
    let a = c.args in
    let i = c.loop in
    ap fitting_of (sym (keep_none false a.b.now (a.n - i.counter) i.at (omega arith)) ∙ i.invariant.left)
