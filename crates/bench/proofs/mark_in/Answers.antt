use Rattle.bench.proofs.Marks.{marks-refused, marks_there}
use Rattle.bench.proofs.mark_in.Goals as goal

pub returns-in-Err : goal.returns-in-Err
returns-in-Err c = marks-refused _ _ _ c.in-Err.is c.mark_all.ensures c.unmarked.ensures

pub returns-in-Ok : goal.returns-in-Ok
returns-in-Ok c = marks_there _ _ _ c.in-Ok.is c.mark_all.ensures
