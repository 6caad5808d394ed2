use mathlib.Core.Path.{refl}
use Rattle.std.proofs.lemmas.Result.{err_from_is_err_and}
use Rattle.places.specs.Standing.{bare_net}
use Rattle.opening.specs.Filled.{NetworkFilled}
use Rattle.opening.specs.Opening.{NetworkOpened}
use Rattle.opening.proofs.Tables.open_network.Goals as goal

pub returns-in_err-opened : goal.returns-in_err-opened
unfolding NetworkFilled NetworkOpened
returns-in_err-opened c =
    let p = err_from_is_err_and c.from_residual.result c.from_residual.ensures.1 in
    record { opened = rw (p.1, p.2) c.in_err-opened.ensures; that_file = rw p.1 tt }

pub invariant_of-net : goal.invariant_of-net
unfolding NetworkFilled
invariant_of-net c = record { tabled = c.in_ok-opened.ensures.tabled }

pub invariant_of-result : goal.invariant_of-result
unfolding NetworkFilled bare_net
invariant_of-result c = record { placed = c.in_ok-opened.ensures.placed }

pub returns : goal.returns
unfolding NetworkOpened
returns c = record { opened = refl; that_file = refl }
