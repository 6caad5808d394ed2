use mathlib.Core.Path.{sym, ◌∙◌}
use Rattle.moves.proofs.Laws.{became_none}
use Rattle.cycling.proofs.Start.fire_if.Goals as goal

pub is_marked-requires : goal.is_marked-requires
is_marked-requires c = c.requires.k_bound.0

pub fire_next-requires : goal.fire_next-requires
fire_next-requires c =
    let q = c.requires in
    record { standing = q.standing; rules_len = q.k_bound.1; chosen = q.chosen (sym c.is_marked.ensures ∙ c.if-is_marked.true) }

pub returns-then-is_marked : goal.returns-then-is_marked
returns-then-is_marked c = rw (sym c.is_marked.ensures ∙ c.if-is_marked.true) c.fire_next.ensures

pub returns-else-is_marked : goal.returns-else-is_marked
returns-else-is_marked c = rw (sym c.is_marked.ensures ∙ c.if-is_marked.false) (became_none _ _ _ _ _ _ c.requires.standing)
