use native.Mathlib.Omega.{arith}
use Rattle.model.specs.Reasons.{reason_number}
use Rattle.opening.specs.Opening.{Held}
use Rattle.opening.proofs.Laws.{too_short, long_enough, not_a_state, a_state}
use Rattle.opening.proofs.held.Goals as goal

pub returns-then-state-size : goal.returns-then-state-size
unfolding Held reason_number
returns-then-state-size c = too_short c.args.basis.now _ c.args.state.now _ c.plan.ensures c.size-size.ensures (omega arith)

pub state_fits-requires : goal.state_fits-requires
state_fits-requires c = long_enough c.args.basis.now _ c.args.state.now _ c.plan.ensures c.size-size.ensures (omega arith)

pub returns-then-not-state_fits : goal.returns-then-not-state_fits
unfolding Held reason_number
returns-then-not-state_fits c = not_a_state c.args.basis.now _ c.args.state.now _ c.plan.ensures c.size-size.ensures _ (omega arith) c.state_fits.ensures c.if-not-state_fits.true

pub returns : goal.returns
unfolding Held
returns c = a_state c.args.basis.now _ c.args.state.now _ c.plan.ensures c.size-size.ensures _ (omega arith) c.state_fits.ensures c.if-not-state_fits.false
