use Rattle.std.proofs.lemmas.Result.{err_from_is_err_and}
use Rattle.opening.specs.Opening.{NetworkOpened}
use Rattle.bench.proofs.Writes.{write-refused, write_open}
use Rattle.bench.proofs.write_outputs.Goals as goal

pub returns-in_err-plan : goal.returns-in_err-plan
unfolding NetworkOpened
returns-in_err-plan c =
    let p = err_from_is_err_and c.from_residual.result c.from_residual.ensures.1 in
    rw (p.1, p.2) (write-refused _ _ _ _ c.in_err-plan.ensures.opened)

pub returns : goal.returns
unfolding NetworkOpened
returns c = write_open _ _ _ c.in_ok-plan.plan c.in_ok-plan.ensures.opened _ c.write_in.ensures
