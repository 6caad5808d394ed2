use mathlib.Core.Path.{sym, ap}
use Rattle.running.specs.Texts.{refusal_of}
use Rattle.running.proofs.refusal_of.Goals as goal

pub returns-in-Err : goal.returns-in-Err
unfolding refusal_of
returns-in-Err c = sym (ap refusal_of c.in-Err.is)

pub returns-in-Ok : goal.returns-in-Ok
unfolding refusal_of
returns-in-Ok c = sym (ap refusal_of c.in-Ok.is)
