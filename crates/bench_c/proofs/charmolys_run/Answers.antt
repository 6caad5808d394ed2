use mathlib.Core.Path.{ap, ◌∙◌}
use Rattle.bench_c.proofs.Laying.{heard-after, run_clipped}
use Rattle.model.specs.Calls.{run_call}
use Rattle.bench_c.proofs.charmolys_run.Goals as goal

pub returns : goal.returns
returns c =
    heard-after _ _ _ _ c.lay.ensures _ _ c.of_run.ensures (c.run.ensures.0 ∙ ap (run_call _ _ _) c.clip.ensures ∙ run_clipped _ _ _ _)
