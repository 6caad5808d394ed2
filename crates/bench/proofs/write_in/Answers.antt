use native.Mathlib.Omega.{arith}
use Rattle.std.proofs.lemmas.Result.{err_from_is_err_and}
use Rattle.model.specs.Reasons.{reason_number}
use Rattle.model.specs.Calls.{said_write, refusal}
use Rattle.opening.specs.Opening.{Held}
use Rattle.bench.proofs.Writes.{not_held, out_short, wrote}
use Rattle.bench.proofs.write_in.Goals as goal

pub returns-in_err-held : goal.returns-in_err-held
unfolding Held
returns-in_err-held c =
    let p = err_from_is_err_and c.from_residual.result c.from_residual.ensures.1 in
    rw (p.1, p.2) (not_held _ _ _ _ c.in_err-held.ensures)

pub output_size-written-requires : goal.output_size-written-requires
unfolding Held
output_size-written-requires c = c.in_ok-held.ensures

pub returns-then-out-written : goal.returns-then-out-written
unfolding Held said_write refusal reason_number
returns-then-out-written c = out_short _ _ _ c.in_ok-held.ensures _ c.output_size-written.ensures (omega (arith, c.if-out-written.true))

pub write_file-requires : goal.write_file-requires
unfolding Held
write_file-requires c = record { saved = c.in_ok-held.ensures; state_in_bounds = omega (arith, c.if-out-written.false, c.output_size-written.ensures) }

pub returns : goal.returns
unfolding Held said_write
returns c = wrote _ _ _ c.in_ok-held.ensures _ c.output_size-written.ensures _ (omega (arith, c.if-out-written.false)) c.write_file.ensures
