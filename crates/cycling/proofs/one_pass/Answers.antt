use native.Mathlib.Omega.{arith}
use Rattle.cycling.proofs.Marked.{told}
use Rattle.cycling.proofs.Rounds.{pass_broken, broken_small, blamed}
use Rattle.cycling.proofs.one_pass.Goals as goal

-- a box's number fits a byte
pub overflow_cast-result : goal.overflow_cast-result
overflow_cast-result c =
    let h = c.requires.standing in
    let w = h.tabled.within in
    omega (arith, broken_small _ _ _ _ _ _ h _ _ _ c.in-Err.is c.mark_all.ensures, w.boxes, w.inputs, w.outputs)

pub pass-requires : goal.pass-requires
pass-requires c = record { standing = c.requires.standing; told = told _ _ _ _ _ c.in-Ok.is c.mark_all.ensures }

pub returns-in-Ok : goal.returns-in-Ok
returns-in-Ok c = c.pass.ensures

pub unreachable-requires : goal.unreachable-requires
unreachable-requires c =
    let found = blamed _ _ _ _ _ _ c.requires.standing _ _ _ c.in-Err.is c.mark_all.ensures in
    c.in_default.not-Fault found.fault found.reason

pub returns-in-Fault : goal.returns-in-Fault
returns-in-Fault c = pass_broken _ _ _ _ _ _ c.requires.standing _ _ _ c.in-Err.is c.mark_all.ensures _ _ c.in-Fault.is
