use native.Mathlib.Omega.{arith}
use Rattle.model.specs.Reasons.{reason_number}
use Rattle.model.specs.Calls.{said_load, refusal}
use Rattle.bench.proofs.Loads.{too_short, long_enough}
use Rattle.bench.proofs.load_in.Goals as goal

pub returns-then-state-size : goal.returns-then-state-size
unfolding said_load refusal reason_number
returns-then-state-size c = too_short _ _ _ c.size-size.ensures (omega (arith, c.if-state-size.true))

pub load-requires : goal.load-requires
load-requires c = omega (arith, c.if-state-size.false, c.size-size.ensures)

pub returns : goal.returns
unfolding said_load
returns c = long_enough _ _ _ c.size-size.ensures _ (omega (arith, c.if-state-size.false)) c.load.ensures
