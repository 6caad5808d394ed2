use mathlib.Core.Path.{◌∙◌}
use native.Mathlib.Omega.{arith}
use borrow.Author.Rules.{rules}
use Rattle.shapes.proofs.Laws.{ins_few, outs_few, vars_few}
use Rattle.index.proofs.LastBox.{reason_said, last_fits, rule_is_lem, rule_precise}
use Rattle.index.proofs.rule_in.Goals as goal

pub shape_of-a-requires : goal.shape_of-a-requires
shape_of-a-requires c = let p = c.requires in record { wires_in_bounds = omega arith; box_fits = last_fits _ _ _ p.in_bounds.0 p.within p.valid p.in_bounds.1 c.entry-o.result c.entry-o.ensures.0; in_bounds = (omega arith, omega arith, omega arith) }

pub rule_fault-requires : goal.rule_fault-requires
rule_fault-requires c =
    let p = c.requires in
    let sh = c.shape_of-a.ensures in
    let f = last_fits _ _ _ p.in_bounds.0 p.within p.valid p.in_bounds.1 c.entry-o.result c.entry-o.ensures.0 in
    record {
      ins_bound = (ins_few _ _ _ _ _ _ sh f.body, outs_few _ _ _ _ _ _ sh f.body, vars_few _ _ _ _ _ _ sh f.body);
      precise = rule_precise _ _ _ p.in_bounds.0 p.within p.valid p.in_bounds.1 c.entry-o.result c.entry-o.ensures.0 _ _ _ _ sh;
    }

pub returns : goal.returns
returns c =
    let p = c.requires in
    reason_said _ _ _ (λ f x h. search rules) c.map_err.ensures.cases
    ∙ rule_is_lem _ _ _ p.in_bounds.0 p.within p.valid p.in_bounds.1 c.entry-o.result c.entry-o.ensures.0 _ _ _ c.shape_of-a.ensures c.rule_fault.ensures
