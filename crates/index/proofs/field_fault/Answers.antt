use native.Mathlib.Omega.{arith}
use Rattle.model.specs.Reasons.{reason_number, fault_said}
use Rattle.index.proofs.Tags.{wire_late, box_late, rule_late, input_late, no_tag, wire_of_lem, box_of_lem, rule_of_lem, input_of, output_of}
use Rattle.index.proofs.field_fault.Goals as goal

pub returns-in-1 : goal.returns-in-1
returns-in-1 c = let p = c.requires in wire_of_lem _ _ _ _ _ p.in_bounds p.within _ (omega arith) (omega arith) c.wire_fault.ensures

pub returns-in-2 : goal.returns-in-2
returns-in-2 c = let p = c.requires in box_of_lem _ _ _ _ _ p.in_bounds p.within _ (omega arith) (omega arith) c.box_fault.ensures

pub returns-in-3 : goal.returns-in-3
returns-in-3 c = rule_of_lem _ _ _ _ _ _ (omega arith) c.rule_in.ensures

pub returns-in-4 : goal.returns-in-4
returns-in-4 c = let p = c.requires in input_of _ _ _ _ _ p.in_bounds p.within _ (omega arith) (omega arith) c.input_fault.ensures

pub returns-in-5 : goal.returns-in-5
returns-in-5 c = let p = c.requires in output_of _ _ _ _ _ p.in_bounds p.within _ (omega arith) c.output_fault.ensures

pub returns-in_default : goal.returns-in_default
unfolding fault_said reason_number
returns-in_default c = wire_late _ _ _ _ _ (omega arith) (omega arith)

pub returns-in_default-2 : goal.returns-in_default-2
unfolding fault_said reason_number
returns-in_default-2 c = box_late _ _ _ _ _ (omega arith) (omega arith)

pub returns-in_default-3 : goal.returns-in_default-3
unfolding fault_said reason_number
returns-in_default-3 c = rule_late _ _ _ _ _ (omega arith) (omega arith)

pub returns-in_default-4 : goal.returns-in_default-4
unfolding fault_said reason_number
returns-in_default-4 c = input_late _ _ _ _ _ (omega arith) (omega arith)

pub returns-in_default-5 : goal.returns-in_default-5
unfolding fault_said reason_number
returns-in_default-5 c = no_tag _ _ _ _ _ (omega arith) (omega arith) (omega arith) (omega arith) (omega arith)
