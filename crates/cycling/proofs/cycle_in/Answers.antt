use Rattle.std.proofs.lemmas.Result.{err_from_is_err_and}
use Rattle.cycling.proofs.Marked.{told}
use Rattle.cycling.proofs.Rounds.{cycle-broken}
use Rattle.cycling.proofs.cycle_in.Goals as goal

pub cycle-requires : goal.cycle-requires
cycle-requires c = record { standing = c.requires.standing; told = told _ _ _ _ _ c.in_ok-set.was c.mark_all.ensures }

pub returns-in_err-set : goal.returns-in_err-set
returns-in_err-set c =
    let gone = err_from_is_err_and c.from_residual.result c.from_residual.ensures.1 in
    rw (gone.1, gone.2) (cycle-broken _ _ _ _ _ _ c.requires.standing _ _ _ _ c.in_err-set.was c.mark_all.ensures)

pub returns : goal.returns
returns c = c.cycle.ensures
