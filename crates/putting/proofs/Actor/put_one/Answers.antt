use mathlib.Core.Path.{sym, ◌∙◌}
use Rattle.moves.proofs.Laws.{became_none, wires_n}
use Rattle.putting.proofs.Sent.{puts_none, puts_one, put_done, can_put}
use Rattle.putting.proofs.Actor.put_one.Goals as goal

pub put-requires : goal.put-requires
put-requires c = record {
  standing = c.requires.standing;
  can_put = can_put _ _ _ _ _ _ _ _ _ _ (wires_n _ _ _ _ _ _ c.requires.standing) c.out_wire-w.ensures c.in-Some.ensures c.requires.places;
}

pub returns-in-Some : goal.returns-in-Some
returns-in-Some c = put_done (puts_one _ _ _ _ _ _ _ _ c.out_wire-w.ensures.0 c.in-Some.ensures) c.put.ensures

pub returns-in_default : goal.returns-in_default
returns-in_default c = put_done (puts_none _ _ _ _ _ _ (sym c.in_default.is ∙ c.sent.ensures)) (became_none _ _ _ _ _ _ c.requires.standing)
