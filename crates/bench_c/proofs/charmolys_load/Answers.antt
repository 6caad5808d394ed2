use Rattle.bench_c.proofs.Laying.{heard-after}
use Rattle.bench_c.proofs.charmolys_load.Goals as goal

pub returns : goal.returns
returns c =
    heard-after _ _ _ _ c.lay.ensures _ _ c.of_load.ensures c.load.ensures
