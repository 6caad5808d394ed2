use Rattle.std.proofs.Common.{ℕ, ap, ◌∙◌, ◌+◌, arith}
use Rattle.model.specs.Bytes.{value_at}
use Rattle.octets.proofs.Laws.{back}
use Rattle.tokens.proofs.Laws.{load_none, load_turn, load_done}
use Rattle.tokens.proofs.load_values.Goals as goal

pub loop-j-init : goal.loop-j-init
loop-j-init c =
    let e = c.from-n.ensures ∙ c.byte_at.ensures in
    (e, omega arith, load_none _ _)

pub loop-j-preserved : goal.loop-j-preserved
loop-j-preserved c =
    let l = c.loop-j in
    let z = back (omega arith) ∙ c.value_at-z.ensures.0 ∙ ap (λ (n : ℕ). value_at c.args.body.now (n + 2)) c.variable_start-at.ensures.0 in
    (l.invariant.0, l.invariant.1, c.put_var.ensures ∙ load_turn _ _ _ l.j _ l.invariant.2 z)

pub returns : goal.returns
returns c = let l = c.loop-j in load_done _ _ _ l.j l.invariant.2 (omega arith) (omega arith)
