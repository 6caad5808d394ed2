use native.Mathlib.Omega.{arith}
use mathlib.Core.Path.{◌≡◌}
use mir.Syntax.{w64}
use mir.Val.{to_z, of_z}
use Rattle.octets.proofs.Laws.{back}
use Rattle.queues.proofs.Stores.{token_past, token_is}
use Rattle.queues.proofs.token_at.Goals as goal

pub returns-then-s-at : goal.returns-then-s-at
returns-then-s-at c = (token_past c.args.s.now c.args.at (omega arith), omega arith)

pub returns : goal.returns
returns c =
    let e : to_z w64 (of_z w64 c.value_at-value.result) ≡ c.value_at-value.result = back (omega arith) in
    rw e (token_is _ _ _ _ c.byte_at-tag.ensures c.value_at-value.ensures.0, omega arith)
