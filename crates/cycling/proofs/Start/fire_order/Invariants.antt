use lib.ListN.{drop}
use Rattle.model.specs.Cycles.{cycle_in}
use Rattle.places.specs.Views.{net_at, state_at, Stands}
use Rattle.cycling.specs.Cycling.{Noted}
use Rattle.cycling.proofs.Midway.{Left}
use Rattle.cycling.proofs.Start.fire_order.Given as goal

abbrev pub invariant-loop-k : goal.invariant-loop-k
invariant-loop-k l =
    let site = l.feed.site in
    let net = site.plan.net in
    let b = l.initial.state in
    (h : Stands site b) × (q : Noted (net_at site) (state_at site b) l.self.rules.now) ×
    Left net.file.now net.table.now site.plan.starts.now site.tokens.now b net.counts h l.self.rules.now q (drop l.k-index l.order) (cycle_in (net_at site) l.order (state_at site b)) l.state
