-- `unfolding opened` opens every definition, so that a worked example computes.
-- Assumes nothing.
use Rattle.std.specs.Prelude.{ℕ}
use Rattle.model.specs.Bytes as Bytes
use Rattle.model.specs.Reasons as Reasons
use Rattle.model.specs.Values as Values
use Rattle.model.specs.Expressions as Expressions
use Rattle.model.specs.Rules as Rules
use Rattle.model.specs.Network as Network
use Rattle.model.specs.NetworkFile as NetworkFile
use Rattle.model.specs.States as States
use Rattle.model.specs.Cycles as Cycles
use Rattle.model.specs.Calls as Calls
use Rattle.model.specs.Printing as Printing

unfoldable pub opened : ℕ
unfolding mathlib.Core.List.zip_with Bytes.mod_z Bytes.signed_of Bytes.two_at Bytes.four_at Bytes.value_at Bytes.two_bytes Bytes.four_bytes Bytes.value_bytes Bytes.stretch Reasons.fault_number Reasons.reason_number Reasons.fault_said Values.bool Values.no_type Values.is_bool Values.is_number Values.is_dc Values.carried Values.same_type Values.in_precision Values.well_sized Values.is_plain Values.least Values.greatest Values.within Values.pattern Values.read_back Values.wrap Values.truth Values.eq_z Values.is_true Values.arithmetic Values.bitwise Values.compare Values.logic Values.apply Values.apply_one Expressions.after Expressions.read_many Expressions.head_size Expressions.operands Expressions.known_code Expressions.known_kind Expressions.head_fits Expressions.type_at Expressions.nothing_read Expressions.build Expressions.provided Expressions.read_exp Expressions.expression Expressions.size_of Expressions.depth_of Expressions.precise Expressions.expression_limits Expressions.judged Expressions.operand_at Expressions.count_type Expressions.one_type Expressions.two_type Expressions.type_of Expressions.then Expressions.value_of Rules.pattern_of Rules.pattern_size Rules.input_code Rules.variable_code Rules.read_pattern Rules.output_action Rules.variable_action Rules.bare_action Rules.holds_expression Rules.sent_tag Rules.read_action Rules.read_rule Rules.no_rule Rules.rule_read Rules.is_whole Rules.action_limits Rules.also Rules.fit_if Rules.tag_fits Rules.pattern_fits Rules.size_of_pattern Rules.patterns_size Rules.patterns_fit Rules.matched_type Rules.matched_types Rules.scope_of Rules.has_type Rules.guard_fits Rules.action_fits Rules.size_of_action Rules.actions_size Rules.actions_fit Rules.rule_fits Rules.is_fit Network.no_token Network.no_wire Network.nobody Network.wire Network.capacity Network.proc Network.rule Network.queue Network.own Network.vars_of Network.taken_of Network.got_of Network.ins_of Network.outs_of Network.wire_types Network.variable_types Network.shape_of Network.fresh Network.no_tokens Network.loaded NetworkFile.field_at NetworkFile.no_fields NetworkFile.every NetworkFile.tabulate NetworkFile.fault_of NetworkFile.wire_form NetworkFile.wire_limits NetworkFile.wire_type_fits NetworkFile.variable_start NetworkFile.box_form NetworkFile.box_limits NetworkFile.variable_fits NetworkFile.box_types NetworkFile.rule_in NetworkFile.rule_form NetworkFile.rule_limits NetworkFile.rule_types NetworkFile.input_form NetworkFile.output_form NetworkFile.output_limits NetworkFile.body_at NetworkFile.wire_of NetworkFile.variable_of NetworkFile.box_of NetworkFile.wires_of NetworkFile.shape_at NetworkFile.rules_end NetworkFile.rule_at NetworkFile.rules_of NetworkFile.box_at NetworkFile.input_at NetworkFile.output_at NetworkFile.net_of NetworkFile.in_order NetworkFile.field_fault NetworkFile.add_field NetworkFile.onward NetworkFile.on_field NetworkFile.step NetworkFile.walk NetworkFile.fields NetworkFile.hit NetworkFile.count NetworkFile.ports NetworkFile.ports_fit NetworkFile.lowest_from NetworkFile.odd_wire NetworkFile.ports_of NetworkFile.next NetworkFile.by_verdict NetworkFile.or_refuse NetworkFile.network NetworkFile.rule_stretch States.token_at States.read_tokens States.token_bytes States.tokens_bytes States.token_fits States.tokens_fit States.tokens_in States.token_field States.input_tokens States.tokens_from States.token_file States.input_types States.room_bytes States.wire_bytes States.values_bytes States.own_bytes States.cat States.segments States.bytes_of States.wire_size States.own_size States.sum States.wires_size States.state_size States.all_zero States.room_fits States.wire_fits States.queue_in States.values_in States.values_fit States.own_fits States.own_in States.split States.all_true States.wire_parts States.own_parts States.state_fits States.state_in States.output_field States.output_file Cycles.empty Cycles.oldest Cycles.full Cycles.reads Cycles.matches Cycles.ready_in Cycles.ready_ins Cycles.ready_vars Cycles.writes Cycles.ready_outs Cycles.seen Cycles.look Cycles.moves Cycles.matched_value Cycles.env_of Cycles.or_zero Cycles.result Cycles.new_var Cycles.new_vars Cycles.reads_of Cycles.sent_of Cycles.present Cycles.kept_of Cycles.deed_of Cycles.take_all Cycles.put_all Cycles.act Cycles.faultless Cycles.actions_of Cycles.chosen Cycles.attempt Cycles.guarded Cycles.ready_rule Cycles.try_rule Cycles.or_else Cycles.first Cycles.up_from Cycles.tried Cycles.flag Cycles.mark_of Cycles.mark Cycles.rule_of Cycles.deed Cycles.fire Cycles.fire_all Cycles.cycle_in Cycles.marked Cycles.keep_if Cycles.marked_from Cycles.processes Cycles.marked_of Cycles.bits Cycles.marked_set Cycles.box_rule Cycles.rule_numbers Cycles.blame Cycles.fault_in Cycles.any_mark Cycles.finding Cycles.has Cycles.is_order Cycles.stop Cycles.later Cycles.halt Cycles.proceed Cycles.run Calls.refusal Calls.said_check Calls.said_load Calls.said_mark Calls.said_cycle Calls.said_ending Calls.said_run Calls.said_write Calls.tokened Calls.with_tokens Calls.without_tokens Calls.roomy Calls.held Calls.keeps Calls.leaves Calls.check_call Calls.body_call Calls.load_call Calls.no_marks Calls.marks_of Calls.mark_call Calls.cycle_of Calls.cycle_call Calls.run_of Calls.run_call Calls.file_in Calls.write_call Printing.digits_from Printing.decimal Printing.signed Printing.shown Printing.spaced Printing.ending_word Printing.box_part Printing.outcome_line Printing.output_line Printing.output_lines Printing.refused_line Printing.ended_text Printing.printed
opened = 0
