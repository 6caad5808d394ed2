use Rattle.bench_c.specs.Heard.{says_body}
use Rattle.bench_c.proofs.Laying.{heard-only}
use Rattle.bench_c.proofs.charmolys_rule_body.Goals as goal

pub returns : goal.returns
unfolding says_body
returns c =
    heard-only _ _ _ _ c.lay.ensures c.body.ensures
