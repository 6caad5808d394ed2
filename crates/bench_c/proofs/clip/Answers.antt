use Rattle.bench_c.proofs.Laying.{clipped, kept}
use Rattle.bench_c.proofs.clip.Goals as goal

pub returns-then-budget-gt65535 : goal.returns-then-budget-gt65535
returns-then-budget-gt65535 c = clipped _ c.if-budget-gt65535.true

pub returns : goal.returns
returns c = kept _ c.if-budget-gt65535.false
