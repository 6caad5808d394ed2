use Rattle.cycling.proofs.Midway.{noted_many, left_first, left_turn, left_asks, left_next, left_end}
use Rattle.cycling.proofs.Start.fire_order.Goals as goal

pub loop-k-init : goal.loop-k-init
loop-k-init c = let q = c.requires in (q.standing, q.noted, left_first _ _ _ _ _ _ q.standing _ q.noted _ q.order)

pub fire_next-requires : goal.fire_next-requires
fire_next-requires c =
    let inv = c.loop-k.invariant in
    let here = left_turn _ _ _ _ _ _ inv.0 _ inv.1 _ _ _ _ c.loop-k-test.true inv.2 in
    record { standing = inv.2.became.stands; rules_len = noted_many _ _ _ inv.1; chosen = left_asks _ _ _ _ _ _ inv.0 _ inv.1 _ _ _ _ here }

pub loop-k-preserved : goal.loop-k-preserved
loop-k-preserved c =
    let inv = c.loop-k.invariant in
    let here = left_turn _ _ _ _ _ _ inv.0 _ inv.1 _ _ _ _ c.loop-k-test.true inv.2 in
    (inv.0, inv.1, left_next _ _ _ _ _ _ inv.0 _ inv.1 _ _ _ _ here _ c.fire_next.ensures)

pub shape_of-state : goal.shape_of-state
shape_of-state c = c.loop-k.invariant.2.became.long

pub returns : goal.returns
returns c = let inv = c.loop-k.invariant in left_end _ _ _ _ _ _ inv.0 _ inv.1 _ _ _ _ c.loop-k-test.false inv.2
