use Rattle.sights.proofs.Sights.{head_none, head_some}
use Rattle.sights.proofs.head.Goals as goal

pub returns-then-byte_at-eq0 : goal.returns-then-byte_at-eq0
returns-then-byte_at-eq0 c = head_none _ c.byte_at.result c.byte_at.ensures c.if-byte_at-eq0.true

pub returns : goal.returns
returns c = head_some _ c.byte_at.result c.byte_at-2.result c.byte_at.ensures c.if-byte_at-eq0.false c.byte_at-2.ensures
