use Rattle.places.specs.Views.{net_at, state_at, Stands}
use Rattle.cycling.specs.Cycling.{Told}
use Rattle.cycling.proofs.Rounds.{From}
use Rattle.cycling.proofs.Start.fire_marked.Given as goal

abbrev pub invariant-loop-k : goal.invariant-loop-k
invariant-loop-k l =
    let site = l.feed.site in
    let net = site.plan.net in
    let b = l.initial.state in
    let x = l.self in
    (h : Stands site b) × (q : Told (net_at site) (state_at site b) x.set x.rules.now) ×
    From net.file.now net.table.now site.plan.starts.now site.tokens.now b net.counts h x.set x.rules.now q l.k l.state
