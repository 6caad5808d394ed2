use Prim.Native.Nat.{◌-◌}
use Rattle.cycling.proofs.Rounds.{Ran}
use Rattle.cycling.proofs.run_in.Given as goal

abbrev pub invariant-loop-ending : goal.invariant-loop-ending
invariant-loop-ending l =
    let site = l.feed.site in
    let net = site.plan.net in
    Ran net.file.now net.table.now site.plan.starts.now site.tokens.now l.initial.state net.counts l.budget l.cycles l.state

abbrev pub decreases-loop-ending : goal.decreases-loop-ending
decreases-loop-ending l = l.budget - l.cycles
