use Rattle.cycling.proofs.Rounds.{pass_idle, pass_spent, pass_go}
use Rattle.cycling.proofs.Start.pass.Goals as goal

pub returns-then-self-eq0 : goal.returns-then-self-eq0
returns-then-self-eq0 c = let q = c.requires in pass_idle _ _ _ _ _ _ q.standing _ _ q.told _ c.if-self-eq0.true

pub returns-then-left-eq0 : goal.returns-then-left-eq0
returns-then-left-eq0 c = let q = c.requires in pass_spent _ _ _ _ _ _ q.standing _ _ q.told _ c.if-self-eq0.false c.if-left-eq0.true

pub returns : goal.returns
returns c = let q = c.requires in pass_go _ _ _ _ _ _ q.standing _ _ q.told _ c.if-self-eq0.false c.if-left-eq0.false _ c.fire_marked.ensures
