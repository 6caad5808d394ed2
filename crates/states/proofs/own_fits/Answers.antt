use Prim.Native.Nat.{◌≤◌}
use mathlib.Core.Path.{◌∙◌}
use native.Mathlib.Omega.{arith}
use lib.ListN.{length}
use borrow.Rule.Slice.PartMut.{mid_len}
use Rattle.states.specs.Saved.{plan_of, tokens_for, counted}
use Rattle.states.proofs.Bases.{is_process, span_is}
use Rattle.states.proofs.Fits.{own_part}
use Rattle.states.proofs.own_fits.Goals as goal

pub own_span-span-requires : goal.own_span-span-requires
own_span-span-requires c = is_process c.args.basis.now _ c.plan.ensures _ c.requires.k_bound

pub slice_bounds-own_part_fits-end : goal.slice_bounds-own_part_fits-end
slice_bounds-own_part_fits-end c =
    let r = span_is c.args.basis.now _ c.plan.ensures c.args.k.0 c.own_span-span.result c.own_span-span.ensures in
    omega (arith, r.inside, c.requires.in_bounds)

pub own_part_fits-requires : goal.own_part_fits-requires
own_part_fits-requires c =
    let x = c.own_span-span.result in
    let r = span_is c.args.basis.now _ c.plan.ensures c.args.k.0 x c.own_span-span.ensures in
    let inside : x.end ≤ length c.args.state.now = omega (arith, r.inside, c.requires.in_bounds) in
    record { k_bound = c.requires.k_bound; part_len = mid_len x.start x.end c.args.state.now inside ∙ omega (arith, r.end) }

pub returns : goal.returns
returns c =
    let b = c.args.basis.now in
    let x = c.own_span-span.result in
    let r = span_is b _ c.plan.ensures c.args.k.0 x c.own_span-span.ensures in
    own_part _ _ _ (plan_of b).net.tabled (tokens_for b) c.args.k.0 x.start x.end (counted b) c.args.state.now _ c.requires.k_bound r.start r.end c.own_part_fits.ensures
