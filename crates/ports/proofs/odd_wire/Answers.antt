-- The ports of boxes, inputs and outputs lie in the file, since the check of its fields found no fault.
-- Assumes nothing.
use Rattle.std.proofs.Common.{true, false, ℕ, List, ◌+◌, ◌≤◌, ◌<◌, length, get_or, ap, ◌∙◌, rules}
use Rattle.shapes.specs.Shapes.{BoxFits}
use Rattle.ports.specs.Ports.{tally_of, ports_at, box_ports, end_port}
use Rattle.ports.proofs.Decoded.{box_at_fits, input_inside, output_inside, odd_is}
use Rattle.ports.proofs.odd_wire.Goals as goal

pub tally_fields-requires : goal.tally_fields-requires
tally_fields-requires c =
    let p = c.requires in
    let a = c.args in
    let each : (k : ℕ) → k < length c.region-boxes.result.now → BoxFits a.net.now (get_or c.region-boxes.result.now k 0) = box_at_fits a.net.now a.tab.now a.c p.within p.in_bounds p.valid _ c.region-boxes.ensures in
    search (rules, each)

pub tally_fields-requires-2 : goal.tally_fields-requires-2
tally_fields-requires-2 c =
    let p = c.requires in
    let a = c.args in
    let each : (k : ℕ) → k < length c.region-outputs.result.now → get_or c.region-outputs.result.now k 0 + 4 ≤ length a.net.now = output_inside a.net.now a.tab.now a.c p.within p.in_bounds p.valid _ c.region-outputs.ensures in
    search (rules, each)

pub tally_fields-requires-3 : goal.tally_fields-requires-3
tally_fields-requires-3 c =
    let p = c.requires in
    let a = c.args in
    let each : (k : ℕ) → k < length c.region-boxes.result.now → BoxFits a.net.now (get_or c.region-boxes.result.now k 0) = box_at_fits a.net.now a.tab.now a.c p.within p.in_bounds p.valid _ c.region-boxes.ensures in
    search (rules, each)

pub tally_fields-requires-4 : goal.tally_fields-requires-4
tally_fields-requires-4 c =
    let p = c.requires in
    let a = c.args in
    let each : (k : ℕ) → k < length c.region-inputs.result.now → get_or c.region-inputs.result.now k 0 + 4 ≤ length a.net.now = input_inside a.net.now a.tab.now a.c p.within p.in_bounds p.valid _ c.region-inputs.ensures in
    search (rules, each)

pub returns : goal.returns
returns c =
    let p = c.requires in
    let s = c.args.net.now in
    c.lowest_bad.ensures
    ∙ odd_is s c.args.tab.now c.args.c p.within p.in_bounds _ _ _ _
    (c.tally_fields.ensures (box_ports false s) (λ o r h. search rules) ∙ ap (λ (l : List ℕ). tally_of _ (ports_at (box_ports false s) l)) c.region-boxes.ensures)
    (c.tally_fields-2.ensures (end_port s) (λ o r h. search rules) ∙ ap (λ (l : List ℕ). tally_of c.tally_fields.new.counts (ports_at (end_port s) l)) c.region-outputs.ensures)
    (c.tally_fields-3.ensures (box_ports true s) (λ o r h. search rules) ∙ ap (λ (l : List ℕ). tally_of _ (ports_at (box_ports true s) l)) c.region-boxes.ensures)
    (c.tally_fields-4.ensures (end_port s) (λ o r h. search rules) ∙ ap (λ (l : List ℕ). tally_of c.tally_fields-3.new.counts (ports_at (end_port s) l)) c.region-inputs.ensures)
