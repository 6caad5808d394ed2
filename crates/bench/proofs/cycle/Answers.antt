use Rattle.std.proofs.lemmas.Result.{err_from_is_err_and}
use Rattle.opening.specs.Opening.{StateOpened}
use Rattle.bench.proofs.Cycles.{cycle-refused, cycle_open}
use Rattle.bench.proofs.cycle.Goals as goal

pub returns-in_err-feed : goal.returns-in_err-feed
unfolding StateOpened
returns-in_err-feed c =
    let p = err_from_is_err_and c.from_residual.result c.from_residual.ensures.1 in
    rw (p.1, p.2) (cycle-refused _ _ _ _ _ c.in_err-feed.ensures.opened)

pub cycle_in-requires : goal.cycle_in-requires
unfolding StateOpened
cycle_in-requires c = record { standing = c.in_ok-feed.ensures.opened.standing }

pub returns : goal.returns
unfolding StateOpened
returns c = cycle_open _ _ _ _ _ c.in_ok-feed.ensures.opened _ _ c.cycle_in.ensures
