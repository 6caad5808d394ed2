use Rattle.std.proofs.lemmas.Result.{err_from_is_err_and}
use Rattle.opening.specs.Opening.{StateOpened}
use Rattle.bench.proofs.Cycles.{budget_large, run-refused, run_open}
use Rattle.bench.proofs.run.Goals as goal

pub returns-then-budget-gt65535 : goal.returns-then-budget-gt65535
returns-then-budget-gt65535 c = budget_large _ _ _ _ c.if-budget-gt65535.true

pub returns-in_err-feed : goal.returns-in_err-feed
unfolding StateOpened
returns-in_err-feed c =
    let p = err_from_is_err_and c.from_residual.result c.from_residual.ensures.1 in
    rw (p.1, p.2) (run-refused _ _ _ _ c.if-budget-gt65535.false _ c.in_err-feed.ensures.opened)

pub run_in-requires : goal.run_in-requires
unfolding StateOpened
run_in-requires c = record { standing = c.in_ok-feed.ensures.opened.standing }

pub returns : goal.returns
unfolding StateOpened
returns c = run_open _ _ _ _ c.if-budget-gt65535.false _ c.in_ok-feed.ensures.opened _ _ c.run_in.ensures
