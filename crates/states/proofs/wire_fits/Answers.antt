use Prim.Native.Nat.{◌≤◌}
use native.Mathlib.Omega.{arith}
use lib.ListN.{length}
use Rattle.states.proofs.Fits.{wire_long, wire_part}
use Rattle.states.proofs.wire_fits.Goals as goal

pub wire_fits-requires : goal.wire_fits-requires
wire_fits-requires c =
    let net = c.args.plan.now.net in
    let r = c.wire_span-span in
    let y = c.wire_type-t in
    let inside : r.result.end ≤ length c.args.state.now = omega (arith, r.ensures.inside, c.requires.in_bounds) in
    record {
      le_p = y.ensures.1.low;
      p_bound = y.ensures.1.high;
      part_len = wire_long net.file.now net.table.now net.counts net.tabled c.args.w.0 r.result.start r.result.end c.capacity-most.result c.args.state.now r.ensures.end inside c.capacity-most.ensures.0;
    }

pub returns : goal.returns
returns c =
    let net = c.args.plan.now.net in
    let r = c.wire_span-span in
    let y = c.wire_type-t in
    let m = c.capacity-most in
    wire_part net.file.now net.table.now net.counts net.tabled c.args.w.0 r.result.start r.result.end _ _ c.args.state.now _ r.ensures.start r.ensures.end y.ensures.0 m.ensures.0 c.wire_fits.ensures
