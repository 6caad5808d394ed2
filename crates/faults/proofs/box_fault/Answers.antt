use Rattle.std.proofs.Common.{sym, ◌∙◌}
use Rattle.faults.proofs.Laws.{precise_of}
use Rattle.faults.proofs.box_fault.Goals as goal

pub variables_fit-requires-clause-j_value : goal.variables_fit-requires-clause-j_value
variables_fit-requires-clause-j_value c =
    precise_of c.args.b.now c.args.seen _ (c.from-vars.ensures ∙ c.byte_at.ensures) (sym c.box_limits.ensures ∙ c.if-not-box_limits.false)
