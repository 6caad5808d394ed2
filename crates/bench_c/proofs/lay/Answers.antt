use mathlib.Core.Path.{refl}
use Rattle.bench_c.proofs.Laying.{four_laid}
use Rattle.bench_c.proofs.lay.Goals as goal

pub returns : goal.returns
returns c =
    (refl, four_laid _ _ _ _ _ _ c.put.ensures c.put-2.ensures c.put-3.ensures c.put-4.ensures)
