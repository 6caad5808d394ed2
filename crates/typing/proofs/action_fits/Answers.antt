use mathlib.Core.Path.{ap, ◌∙◌}
use native.Mathlib.Omega.{arith}
use Rattle.types.specs.Scopes.{scope_in}
use Rattle.typing.specs.Fits.{fitting_of}
use Rattle.typing.proofs.Actions.{act_none, act_sent, act_bare, act_limits, holds_one, holds_five, holds_none}
use Rattle.typing.proofs.action_fits.Goals as goal

pub returns-in-0 : goal.returns-in-0
returns-in-0 c =
    let a = c.args in
    act_none (scope_in a.types.now) a.b.now a.at a.t _ c.byte_at.ensures c.in-0.is

pub sent_fits-requires-clause-b_value : goal.sent_fits-requires-clause-b_value
sent_fits-requires-clause-b_value c =
    let a = c.args in
    act_limits (scope_in a.types.now) a.b.now a.at a.t _ c.byte_at.ensures (holds_one _ c.in-1.is).0 c.requires.b_value

pub returns-in-1 : goal.returns-in-1
returns-in-1 c =
    let a = c.args in
    let h = holds_one _ c.in-1.is in
    c.sent_fits.ensures ∙ ap fitting_of (act_sent (scope_in a.types.now) a.b.now a.at a.t _ c.byte_at.ensures 0 h.0 h.1)

pub sent_fits-requires-in-5-clause-b_value : goal.sent_fits-requires-in-5-clause-b_value
sent_fits-requires-in-5-clause-b_value c =
    let a = c.args in
    act_limits (scope_in a.types.now) a.b.now a.at a.t _ c.byte_at.ensures (holds_five _ c.in-5.is).0 c.requires.b_value

pub returns-in-5 : goal.returns-in-5
returns-in-5 c =
    let a = c.args in
    let h = holds_five _ c.in-5.is in
    c.sent_fits-in-5.ensures ∙ ap fitting_of (act_sent (scope_in a.types.now) a.b.now a.at a.t _ c.byte_at.ensures 3 h.0 h.1)

pub returns-in_default : goal.returns-in_default
returns-in_default c =
    let a = c.args in
    c.fit_if.ensures
    ∙ ap fitting_of (act_bare (scope_in a.types.now) a.b.now a.at a.t _ c.byte_at.ensures _ (λ e. omega arith) (holds_none _ (λ e. omega arith) (λ e. omega arith)) c.tag_fits.ensures)
