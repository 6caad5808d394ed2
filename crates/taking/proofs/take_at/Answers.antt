use Rattle.taking.proofs.Reading.{none_read, one_read, read_takes}
use Rattle.taking.proofs.take_at.Goals as goal

pub returns-then-code-eq0 : goal.returns-then-code-eq0
returns-then-code-eq0 c = none_read _ _ _ _ _ _ _ _ c.requires.standing c.if-code-eq0.true

pub take-requires : goal.take-requires
take-requires c = record { standing = c.requires.standing; can_take = read_takes _ _ _ _ _ _ _ c.requires.can_read_at c.in_wire-w.ensures c.if-code-eq0.false }

pub returns : goal.returns
returns c = one_read _ _ _ _ _ _ _ _ _ _ c.in_wire-w.ensures.0 c.if-code-eq0.false c.take.ensures
