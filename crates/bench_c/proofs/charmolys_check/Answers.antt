use mathlib.Core.Path.{ap, ◌∙◌}
use Rattle.bench_c.specs.Heard.{numbers_of, says_only}
use Rattle.bench_c.proofs.Laying.{heard-only}
use Rattle.bench_c.proofs.charmolys_check.Goals as goal

pub returns : goal.returns
unfolding says_only
returns c =
    heard-only _ _ _ _ c.lay.ensures (c.of_check.ensures ∙ ap numbers_of c.check.ensures)
