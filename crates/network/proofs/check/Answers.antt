use Rattle.index.specs.Verdicts.{verdict_in}
use Rattle.model.specs.Calls.{said_check, refusal}
use Rattle.network.proofs.Laws.{said_bad, said_good}
use Rattle.network.proofs.check.Goals as goal

pub returns-in-Ok : goal.returns-in-Ok
unfolding said_check verdict_in
returns-in-Ok c = said_good _ _ (rw c.in-Ok.is at c.checked.ensures.result_after)

pub returns-in-Err : goal.returns-in-Err
unfolding said_check refusal verdict_in
returns-in-Err c = said_bad _ _ _ (rw c.in-Err.is at c.checked.ensures.result_after)
