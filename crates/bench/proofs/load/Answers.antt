use Rattle.std.proofs.lemmas.Result.{err_from_is_err_and}
use Rattle.opening.specs.Opening.{FilesOpened}
use Rattle.bench.proofs.Loads.{load-refused, load_open}
use Rattle.bench.proofs.load.Goals as goal

pub returns-in_err-feed : goal.returns-in_err-feed
unfolding FilesOpened
returns-in_err-feed c =
    let p = err_from_is_err_and c.from_residual.result c.from_residual.ensures.1 in
    rw (p.1, p.2) (load-refused _ _ _ _ c.in_err-feed.ensures.opened)

pub returns : goal.returns
unfolding FilesOpened
returns c = load_open _ _ _ _ c.in_ok-feed.ensures.opened _ c.load_in.ensures
