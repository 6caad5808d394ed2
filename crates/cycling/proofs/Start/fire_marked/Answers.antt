use Prim.Native.Nat.{◌<◌}
use native.Mathlib.Omega.{arith}
use Rattle.cycling.proofs.Midway.{noted_many}
use Rattle.cycling.proofs.Rounds.{from_first, from_last, from_asks, from_next}
use Rattle.cycling.proofs.Start.fire_marked.Goals as goal

pub loop-k-init : goal.loop-k-init
loop-k-init c = let q = c.requires in (q.standing, q.told, from_first _ _ _ _ _ _ q.standing _ _ q.told)

pub fire_if-requires : goal.fire_if-requires
fire_if-requires c =
    let inv = c.loop-k.invariant in
    let w = inv.0.tabled.within in
    let small : c.loop-k.k < 64 = omega (arith, w.boxes, w.inputs, w.outputs) in
    record { standing = inv.2.became.stands; k_bound = (small, noted_many _ _ _ inv.1.noted); chosen = from_asks _ _ _ _ _ _ inv.0 _ _ inv.1 _ _ c.loop-k-test.true inv.2 }

pub loop-k-preserved : goal.loop-k-preserved
loop-k-preserved c =
    let inv = c.loop-k.invariant in
    (inv.0, inv.1, from_next _ _ _ _ _ _ inv.0 _ _ inv.1 _ _ c.loop-k-test.true inv.2 _ c.fire_if.ensures)

pub shape_of-state : goal.shape_of-state
shape_of-state c = c.loop-k.invariant.2.became.long

pub returns : goal.returns
returns c = let inv = c.loop-k.invariant in from_last _ _ _ _ _ _ inv.0 _ _ inv.1 _ _ c.loop-k-test.false inv.2
