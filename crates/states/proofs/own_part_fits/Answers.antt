use Prim.Native.Nat.{◌+◌, ◌≤◌}
use mathlib.Core.Path.{◌∙◌}
use native.Mathlib.Omega.{arith}
use Rattle.states.specs.Saved.{tokens_for, counted, input_fits}
use Rattle.states.proofs.Bases.{of_basis, is_process, is_input, sized}
use Rattle.states.proofs.Fits.{box_precise, box_part_lem, input_part, output_long, output_part}
use Rattle.states.proofs.own_part_fits.Goals as goal

pub values_fit-requires : goal.values_fit-requires
values_fit-requires c = rw c.box_body.ensures (box_precise _ _ _ c.plan.result.now.net.tabled c.args.k.0 (omega arith))

pub returns-then-j-net : goal.returns-then-j-net
returns-then-j-net c =
    let b = c.args.basis.now in
    of_basis b _ c.plan.ensures _ _ _ (box_part_lem _ _ _ c.plan.result.now.net.tabled (tokens_for b) (counted b) c.args.part.now c.args.k.0 _ _ (omega arith) c.box_body.ensures c.values_fit.ensures)

pub input_fits-requires : goal.input_fits-requires
input_fits-requires c = is_input c.args.basis.now _ c.plan.ensures _ (omega arith)

pub returns-then-i-net : goal.returns-then-i-net
unfolding input_fits
returns-then-i-net c =
    let b = c.args.basis.now in
    of_basis b _ c.plan.ensures _ _ _ (input_part _ _ _ c.plan.result.now.net.tabled (tokens_for b) (counted b) c.args.part.now _ c.args.k.0 _ (omega arith) (omega arith) (omega arith) c.input_fits.ensures)

pub output_fits-requires : goal.output_fits-requires
output_fits-requires c =
    let b = c.args.basis.now in
    let net = c.plan.result.now.net in
    let k = c.args.k.0 in
    let from : net.counts.boxes + net.counts.inputs ≤ k = omega arith in
    let to = is_process b _ c.plan.ensures k c.requires.k_bound in
    record {
      inputs_bound = from;
      k_bound = to;
      part_len = sized b _ c.plan.ensures k _ c.requires.part_len ∙ output_long net.file.now net.table.now net.counts net.tabled k from to;
    }

pub returns : goal.returns
returns c =
    let b = c.args.basis.now in
    let k = c.args.k.0 in
    of_basis b _ c.plan.ensures _ _ _ (output_part _ _ _ c.plan.result.now.net.tabled (tokens_for b) (counted b) c.args.part.now k _ (omega arith) (is_process b _ c.plan.ensures k c.requires.k_bound) c.output_fits.ensures)
