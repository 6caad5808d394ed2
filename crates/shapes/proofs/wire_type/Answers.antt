use Rattle.std.proofs.Common.{◌∙◌, arith}
use Rattle.shapes.proofs.Laws.{type_none, type_some}
use Rattle.shapes.proofs.wire_type.Goals as goal

pub returns-then-wires-w : goal.returns-then-wires-w
returns-then-wires-w c = type_none _ _ _ _ (omega arith)

pub returns : goal.returns
returns c = c.type_at.ensures ∙ type_some _ _ _ _ _ c.entry.ensures.0 (omega arith) c.requires
