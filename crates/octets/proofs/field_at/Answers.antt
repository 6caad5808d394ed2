use native.Mathlib.Omega.{arith}
use mathlib.Core.Path.{sym}
use Rattle.octets.proofs.Laws.{field_short, field_cut, field_whole}
use Rattle.octets.proofs.field_at.Goals as goal

pub returns-then-n-at : goal.returns-then-n-at
returns-then-n-at c = sym (field_short _ _ (omega arith))

pub returns-then-n-start : goal.returns-then-n-start
returns-then-n-start c = sym (field_cut _ _ _ c.two_at-len.ensures.0 (omega arith) (omega arith))

pub returns : goal.returns
returns c = field_whole _ _ _ c.two_at-len.ensures.0 (omega arith) (omega arith)
