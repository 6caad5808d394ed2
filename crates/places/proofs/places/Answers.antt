-- Up to the loop's index the starts stand in the table, and at is the next one.
-- Assumes nothing.
use Prim.Native.Nat.{◌+◌, ◌<◌}
use mathlib.Core.Path.{refl, ◌∙◌}
use native.Mathlib.Omega.{arith}
use lib.ListN.{length}
use Rattle.model.specs.States.{sum}
use Rattle.queues.specs.Segments.{start_of}
use Rattle.lookup.specs.Views.{network_of}
use Rattle.places.specs.Places.{sizes_of}
use Rattle.places.proofs.Laws.{so_far_next, so_far_all, start_all, start_small, start_on, sizes_length, sizes_sum}
use Rattle.places.proofs.places.Goals as goal

pub loop-j-init : goal.loop-j-init
unfolding start_of sum
loop-j-init c = (refl, record { each = λ i h. absurd (omega (arith, h)) })

pub overflow_cast-starts : goal.overflow_cast-starts
overflow_cast-starts c = omega (arith, c.loop-j.invariant.0, start_small _ _ _ c.args.net.now.tabled c.loop-j.j)

pub overflow_add-at : goal.overflow_add-at
overflow_add-at c =
    let next = start_on _ _ _ c.args.net.now.tabled _ _ _ c.loop-j-test.true c.loop-j.invariant.0 c.segment_size-at.ensures in
    omega (arith, next, start_small _ _ _ c.args.net.now.tabled (c.loop-j.j + 1))

pub loop-j-preserved : goal.loop-j-preserved
loop-j-preserved c =
    let l = c.loop-j in
    let in-bounds : l.j < length l.starts = omega (arith, c.args.net.now.tabled.within) in (
      start_on _ _ _ c.args.net.now.tabled _ _ _ c.loop-j-test.true l.invariant.0 c.segment_size-at.ensures,
      so_far_next _ _ _ _ l.invariant.1 in-bounds l.invariant.0,
    )

pub overflow_cast-starts-2 : goal.overflow_cast-starts-2
overflow_cast-starts-2 c = omega (arith, c.loop-j.invariant.0, start_small _ _ _ c.args.net.now.tabled c.loop-j.j)

pub returns : goal.returns
returns c =
    let l = c.loop-j in
    let n = network_of c.args.net.now in
    let long = sizes_length _ _ _ c.args.net.now.tabled in
    record {
      starts = so_far_all n l.starts l.j _ l.at (omega (arith, long)) (omega arith) l.invariant.1 (omega (arith, c.args.net.now.tabled.within)) l.invariant.0;
      size = l.invariant.0 ∙ start_all (sizes_of n) l.j (omega (arith, long)) ∙ sizes_sum _ _ _ c.args.net.now.tabled;
    }
