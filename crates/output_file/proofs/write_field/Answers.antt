use Prim.Native.Nat.{ℕ}
use native.Mathlib.Omega.{arith}
use Rattle.output_file.proofs.Laws.{part_at, part_needs, part_writes}
use Rattle.output_file.proofs.write_field.Goals as goal

pub own_span-span-requires : goal.own_span-span-requires
own_span-span-requires c = c.requires.output.most

pub slice_bounds-field_out-end : goal.slice_bounds-field_out-end
slice_bounds-field_out-end c = omega (arith, c.own_span-span.ensures.inside, c.requires.saved.long)

pub field_out-requires : goal.field_out-requires
field_out-requires c =
    let h = c.requires in
    let r = c.own_span-span in
    let tabled = c.args.plan.now.net.tabled in
    let o = λ (i : ℕ). (c.type_inv.state i).fits in
    let part = part_at _ _ _ _ tabled h.saved o _ h.output r.result.start r.result.end r.ensures.start r.ensures.end in
    let need = part_needs _ _ _ _ tabled h.saved o _ h.output _ c.args.out.now part h.k_in_bounds in
    record { part_bound = need.0; part_in_bounds = need.1.0; part_in_bounds_2 = need.1.1 }

pub returns : goal.returns
returns c =
    let h = c.requires in
    let r = c.own_span-span in
    let tabled = c.args.plan.now.net.tabled in
    let o = λ (i : ℕ). (c.type_inv.state i).fits in
    let part = part_at _ _ _ _ tabled h.saved o _ h.output r.result.start r.result.end r.ensures.start r.ensures.end in
    part_writes _ _ _ _ tabled h.saved o _ h.output _ c.args.out.now _ _ part c.field_out.ensures.0 c.field_out.ensures.1
