-- Of each output below the loop's index it is noted whether its wire is full.
-- Assumes nothing.
use mathlib.Core.Path.{◌≡◌, ap, subst, ◌∙◌}
use Prim.Native.Nat.{ℕ, ◌<◌}
use native.Mathlib.Omega.{arith}
use lib.ListN.{length}
use Rattle.model.specs.NetworkFile.{hit}
use Rattle.lookup.specs.Views.{box_in}
use Rattle.places.specs.Views.{net_at, state_at}
use Rattle.places.proofs.Standing.{state_good}
use Rattle.sights.specs.Seen.{Fulls}
use Rattle.sights.proofs.Ports.{outs_count, out_wire_is}
use Rattle.sights.proofs.Sights.{fulls_next}
use Rattle.sights.proofs.see_outputs.Goals as goal

pub wire_part-requires-clause-w_lt_wires : goal.wire_part-requires-clause-w_lt_wires
wire_part-requires-clause-w_lt_wires c =
    let h = c.args.site.now.plan.net.tabled in
    let number = outs_count _ _ _ h _ c.requires.k_lt_boxes _ _ _ c.box_body-body.ensures c.byte_at-2.ensures c.from-n.ensures in
    let ins = c.from-first.ensures ∙ c.byte_at.ensures in
    (out_wire_is _ _ _ h _ c.requires.k_lt_boxes _ _ c.loop-j.j _ c.box_body-body.ensures ins (omega (arith, number.0)) c.byte_at-in-loop-j.ensures).1

pub bounds-full-j : goal.bounds-full-j
bounds-full-j c =
    let number = outs_count _ _ _ c.args.site.now.plan.net.tabled _ c.requires.k_lt_boxes _ _ _ c.box_body-body.ensures c.byte_at-2.ensures c.from-n.ensures in
    omega (arith, number.1)

pub loop-j-preserved : goal.loop-j-preserved
unfolding hit
loop-j-preserved c =
    let l = c.loop-j in
    let h = c.args.site.now.plan.net.tabled in
    let number = outs_count _ _ _ h _ c.requires.k_lt_boxes _ _ _ c.box_body-body.ensures c.byte_at-2.ensures c.from-n.ensures in
    let ins = c.from-first.ensures ∙ c.byte_at.ensures in
    let found = out_wire_is _ _ _ h _ c.requires.k_lt_boxes _ _ l.j _ c.box_body-body.ensures ins (omega (arith, number.0)) c.byte_at-in-loop-j.ensures in
    let in-bounds : l.j < length l.full = omega (arith, number.1) in
    fulls_next _ _ _ _ _ _ found.0 c.wire_part.ensures _ _ (state_good _ _ _ _ _ _ c.requires.standing) (c.from.ensures ∙ ap hit c.is_full.ensures) in-bounds l.invariant

pub returns : goal.returns
returns c =
    let l = c.loop-j in
    let outs = (box_in c.args.site.now.plan.net c.args.k.0).outs in
    let number = outs_count _ _ _ c.args.site.now.plan.net.tabled _ c.requires.k_lt_boxes _ _ _ c.box_body-body.ensures c.byte_at-2.ensures c.from-n.ensures in
    let all : l.j ≡ length outs = omega (arith, number.0) in
    subst (λ (j : ℕ). Fulls (net_at c.args.site.now) (state_at c.args.site.now c.args.state.now) outs j l.full) all l.invariant
