use Rattle.cycling.proofs.Midway.{is_not, is_so}
use Rattle.cycling.proofs.Rounds.{order_bad, in_order, cycle-idle, cycle_done}
use Rattle.cycling.proofs.Start.cycle.Goals as goal

pub returns-then-not-order_fits : goal.returns-then-not-order_fits
returns-then-not-order_fits c = let q = c.requires in order_bad _ _ _ _ _ _ q.standing _ _ _ q.told (is_not _ _ c.order_fits.ensures c.if-not-order_fits.true-raw)

pub returns-then-self-eq0 : goal.returns-then-self-eq0
returns-then-self-eq0 c =
    let q = c.requires in
    cycle-idle _ _ _ _ _ _ q.standing _ _ _ q.told (is_so _ _ c.order_fits.ensures c.if-not-order_fits.false-raw) c.if-self-eq0.true

pub fire_order-requires : goal.fire_order-requires
fire_order-requires c =
    let q = c.requires in
    record { standing = q.standing; noted = q.told.noted; order = in_order _ _ _ _ _ _ q.standing _ _ _ q.told (is_so _ _ c.order_fits.ensures c.if-not-order_fits.false-raw) }

pub returns : goal.returns
returns c =
    let q = c.requires in
    cycle_done _ _ _ _ _ _ q.standing _ _ _ q.told (is_so _ _ c.order_fits.ensures c.if-not-order_fits.false-raw) c.if-self-eq0.false _ c.fire_order.ensures
