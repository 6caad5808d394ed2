use borrow.Author.Rules.{rules}
use Rattle.network.proofs.Bodies.{found_in, or_nowhere}
use Rattle.network.proofs.rule_stretch.Goals as goal

pub returns : goal.returns
returns c =
    let a = c.args in
    let f = found_in a.file.now a.b.0 a.r.0 c.accepted.result c.ok.result c.and_then-found.result _ c.accepted.ensures.found c.ok.ensures.value c.and_then-found.ensures (λ n h. search rules) in
    rw c.unwrap_or.ensures (or_nowhere a.file.now a.b.0 a.r.0 c.and_then-found.result f)
