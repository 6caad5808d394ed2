-- Of each input below the loop's index the oldest token is noted, and the variables behind are as they were.
-- Assumes nothing.
use mathlib.Core.Path.{◌≡◌, subst}
use Prim.Native.Nat.{ℕ, ◌<◌}
use native.Mathlib.Omega.{arith}
use lib.ListN.{length}
use Rattle.lookup.specs.Views.{box_in}
use Rattle.octets.proofs.Laws.{back}
use Rattle.places.specs.Views.{net_at, state_at}
use Rattle.places.proofs.Standing.{state_laid}
use Rattle.sights.specs.Seen.{Oldest}
use Rattle.sights.proofs.Ports.{ins_count, in-wire-is}
use Rattle.sights.proofs.Sights.{oldest_next, variables_next}
use Rattle.sights.proofs.see_inputs.Goals as goal

pub wire_part-part-requires-clause-w_lt_wires : goal.wire_part-part-requires-clause-w_lt_wires
wire_part-part-requires-clause-w_lt_wires c =
    let h = c.args.site.now.plan.net.tabled in
    let number = ins_count _ _ _ h _ c.requires.k_lt_boxes _ _ _ c.box_body-body.ensures c.byte_at.ensures c.from-n.ensures in
    (in-wire-is _ _ _ h _ c.requires.k_lt_boxes _ c.loop-j.j _ c.box_body-body.ensures (omega (arith, number.0)) c.byte_at-in-loop-j.ensures).1

pub bounds-heads-j : goal.bounds-heads-j
bounds-heads-j c =
    let number = ins_count _ _ _ c.args.site.now.plan.net.tabled _ c.requires.k_lt_boxes _ _ _ c.box_body-body.ensures c.byte_at.ensures c.from-n.ensures in
    omega (arith, number.1)

pub bounds-vals-j : goal.bounds-vals-j
bounds-vals-j c =
    let number = ins_count _ _ _ c.args.site.now.plan.net.tabled _ c.requires.k_lt_boxes _ _ _ c.box_body-body.ensures c.byte_at.ensures c.from-n.ensures in
    omega (arith, number.1, c.loop-j.invariant.1.long)

pub loop-j-preserved : goal.loop-j-preserved
loop-j-preserved c =
    let l = c.loop-j in
    let h = c.args.site.now.plan.net.tabled in
    let number = ins_count _ _ _ h _ c.requires.k_lt_boxes _ _ _ c.box_body-body.ensures c.byte_at.ensures c.from-n.ensures in
    let found = in-wire-is _ _ _ h _ c.requires.k_lt_boxes _ l.j _ c.box_body-body.ensures (omega (arith, number.0)) c.byte_at-in-loop-j.ensures in
    let small = c.oldest.ensures.1 in
    let value = back {z = c.oldest.result.value} (omega (arith, small)) in
    let in-heads : l.j < length l.heads = omega (arith, number.1) in
    let in-vals : l.j < length l.vals = omega (arith, number.1, l.invariant.1.long) in
    let laid = state_laid _ _ _ _ _ _ c.requires.standing in (
      oldest_next (net_at c.args.site.now) _ _ _ _ _ found.0 c.wire_part-part.ensures _ _ _ _ _ laid c.head.ensures value c.oldest.ensures.0 in-heads in-vals l.invariant.0,
      variables_next _ _ _ _ _ value small (omega (arith, number.1)) in-vals l.invariant.1,
    )

pub returns : goal.returns
returns c =
    let l = c.loop-j in
    let ins = (box_in c.args.site.now.plan.net c.args.k.0).ins in
    let number = ins_count _ _ _ c.args.site.now.plan.net.tabled _ c.requires.k_lt_boxes _ _ _ c.box_body-body.ensures c.byte_at.ensures c.from-n.ensures in
    let all : l.j ≡ length ins = omega (arith, number.0) in
    record {
      oldest = subst (λ (j : ℕ). Oldest (state_at c.args.site.now c.args.state.now) ins j l.heads l.vals) all l.invariant.0;
      variables = l.invariant.1;
    }
