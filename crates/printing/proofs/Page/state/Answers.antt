use Rattle.printing.proofs.Texts.{as_said, nothing}
use Rattle.printing.proofs.Lines.{no_lines, opened_lem, lines_in_lem}
use Rattle.printing.proofs.Page.state.Goals as goal

pub outputs-requires : goal.outputs-requires
outputs-requires c = (opened_lem _ _ _ _ c.in-Ok.ensures.opened).standing

pub returns-in-Ok : goal.returns-in-Ok
returns-in-Ok c = as_said (lines_in_lem _ _ _ _ (opened_lem _ _ _ _ c.in-Ok.ensures.opened)) c.outputs.ensures

pub returns-in_default : goal.returns-in_default
returns-in_default c = as_said (no_lines _ _ _ c.in_default.field-0 (rw c.in_default.is at c.open_state.ensures.opened)) nothing
