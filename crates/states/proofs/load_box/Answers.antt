use Prim.Native.Nat.{◌*◌, ◌≤◌}
use mathlib.Core.Path.{sym, ap, ◌∙◌}
use native.Mathlib.Omega.{arith}
use lib.ListN.{length, get_or}
use borrow.Rule.Slice.PartMut.{mid_len}
use Rattle.states.proofs.Loads.{box_long, put_box}
use Rattle.states.proofs.load_box.Goals as goal

pub load_values-requires : goal.load_values-requires
load_values-requires c =
    let net = c.args.plan.now.net in
    let r = c.own_span-span in
    let inside : r.result.end ≤ length c.args.state.now = omega (arith, r.ensures.inside, c.requires.in_bounds) in
    let long = box_long net.file.now net.table.now net.counts net.tabled c.args.k.0 c.requires.k_lt_boxes in
    mid_len r.result.start r.result.end c.args.state.now inside ∙ omega (arith, r.ensures.end, long) ∙ sym (ap (λ b. 4 * get_or b 2 0) c.box_body.ensures)

pub returns : goal.returns
returns c =
    let net = c.args.plan.now.net in
    let r = c.own_span-span in
    put_box net.file.now net.table.now net.counts net.tabled c.args.k.0 r.result.start r.result.end c.args.state.now _ c.requires.k_lt_boxes r.ensures.start r.ensures.end
    (rw c.box_body.ensures at c.load_values.ensures)
