use Prim.Native.Nat.{ℕ, ◌+◌}
use mathlib.Core.Path.{ap}
use native.Mathlib.Omega.{arith}
use Rattle.places.proofs.Laws.{own_span_is}
use Rattle.places.proofs.Plan.own_span.Goals as goal

pub segment_span-requires : goal.segment_span-requires
segment_span-requires c = omega (arith, c.args.self.now.net.tabled.within)

pub returns : goal.returns
returns c =
    let plan = c.args.self.now in
    own_span_is _ _ _ _ plan.net.tabled plan.placed _ _ _ c.requires (ap (λ (i : ℕ). plan.net.counts.wires + i) c.from.ensures) c.segment_span.ensures
