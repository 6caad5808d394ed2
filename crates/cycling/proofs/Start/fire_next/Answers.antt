use Rattle.cycling.proofs.Start.fire_next.Goals as goal

pub rule_for-r-requires : goal.rule_for-r-requires
rule_for-r-requires c = let q = c.requires in (q.standing.tabled.within.boxes, q.rules_len)

pub fire-requires : goal.fire-requires
fire-requires c = record { standing = c.requires.standing; chosen = rw c.rule_for-r.ensures c.requires.chosen }

pub returns : goal.returns
returns c = rw (← c.rule_for-r.ensures) c.fire.ensures
