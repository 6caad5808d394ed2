use Rattle.bench_c.proofs.Laying.{heard-after}
use Rattle.bench_c.proofs.charmolys_cycle.Goals as goal

pub returns : goal.returns
returns c =
    heard-after _ _ _ _ c.lay.ensures _ _ c.of_cycle.ensures c.cycle.ensures
