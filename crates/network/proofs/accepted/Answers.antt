use Prim.Native.Nat.{◌≤◌}
use mathlib.Core.Path.{refl, sym}
use borrow.Author.Rules.{rules}
use lib.ListN.{length}
use Rattle.std.proofs.lemmas.Result.{err_from_is_err_and}
use Rattle.index.specs.Verdicts.{verdict_in}
use Rattle.network.specs.Answers.{Checked}
use Rattle.network.proofs.accepted.Goals as goal

pub returns-in_err-counts : goal.returns-in_err-counts
unfolding Checked verdict_in
returns-in_err-counts c =
    let p = err_from_is_err_and c.from_residual.result c.from_residual.ensures.1 in
    record { found = rw (p.1, p.2) (sym c.in_err-counts.ensures.result_after); that_file = rw p.1 tt }

pub invariant_of-result : goal.invariant_of-result
unfolding verdict_in
invariant_of-result c =
    let i = c.in_ok-counts.ensures in
    record { tabled = record { long = search rules; within = i.fit; found = sym i.result_after } }

pub returns : goal.returns
unfolding Checked
returns c = record { found = refl; that_file = refl }
