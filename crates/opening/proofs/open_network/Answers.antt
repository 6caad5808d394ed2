use Prim.Native.Nat.{◌≤◌}
use mathlib.Core.Path.{sym}
use borrow.Author.Rules.{rules}
use Rattle.std.proofs.lemmas.Result.{err_from_is_err_and}
use Rattle.index.specs.Verdicts.{verdict_in}
use Rattle.places.specs.Standing.{bare_net}
use Rattle.opening.specs.Filled.{NetworkFilled}
use Rattle.opening.proofs.open_network.Goals as goal

pub returns-in_err-counts : goal.returns-in_err-counts
unfolding NetworkFilled verdict_in
returns-in_err-counts c =
    let p = err_from_is_err_and c.from_residual.result c.from_residual.ensures.1 in
    rw (p.1, p.2) (sym c.in_err-counts.ensures.result_after)

pub invariant_of-net : goal.invariant_of-net
unfolding verdict_in
invariant_of-net c = record { tabled = record { long = search rules; within = c.in_ok-counts.ensures.fit; found = sym c.in_ok-counts.ensures.result_after } }

pub returns : goal.returns
unfolding NetworkFilled verdict_in bare_net
returns c =
    let i = c.in_ok-counts.ensures in
    record { tabled = record { long = search rules; within = i.fit; found = sym i.result_after }; placed = c.places-size.ensures.starts; sized = c.places-size.ensures.size }
