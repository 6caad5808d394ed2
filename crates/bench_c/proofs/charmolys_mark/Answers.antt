use Rattle.bench.specs.Afters.{marked_as}
use Rattle.bench_c.proofs.Laying.{heard-marks}
use Rattle.bench_c.proofs.charmolys_mark.Goals as goal

pub returns : goal.returns
unfolding marked_as
returns c = heard-marks _ _ _ _ _ _ c.lay-word.ensures c.lay_rules.ensures c.of_mark.ensures c.mark-marked.ensures
