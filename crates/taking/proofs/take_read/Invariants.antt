use mathlib.Core.Path.{◌≡◌}
use lib.ListN.{length}
use Rattle.lookup.specs.Views.{box_in}
use Rattle.taking.proofs.Reading.{Left}
use Rattle.taking.proofs.take_read.Given as goal

abbrev pub invariant-loop-j : goal.invariant-loop-j
invariant-loop-j l =
    let net = l.site.plan.net in
    let ws = (box_in net l.k.0).ins in
    (l.n ≡ length ws) × Left net.file.now net.table.now l.site.plan.starts.now l.site.tokens.now l.initial.state net.counts ws l.body l.j l.at l.state
