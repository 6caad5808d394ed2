use mathlib.Core.Path.{sym, ap, ◌∙◌}
use Rattle.network.proofs.Bodies.{far_box, far_rule}
use Rattle.bench_c.specs.Heard.{stretch_of}
use Rattle.bench_c.proofs.body.Goals as goal
use Rattle.bench_c.proofs.body.Goals.{then-b-gt255-via-then-b-gt255, then-b-gt255-via-else-b-gt255+then-r-gt255}

pub returns-then-b-gt255 : goal.returns-then-b-gt255
returns-then-b-gt255 c =
    c.stretch.ensures
    ∙ ap stretch_of (sym (elim c.then-b-gt255.branch [
      | then-b-gt255-via-then-b-gt255 w ↦ far_box _ _ _ w.if-b-gt255.true
      | then-b-gt255-via-else-b-gt255+then-r-gt255 w ↦ far_rule _ _ _ w.if-r-gt255.true
    ]))
