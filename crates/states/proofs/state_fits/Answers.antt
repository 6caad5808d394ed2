use mathlib.Core.Path.{◌∙◌}
use Rattle.states.specs.Saved.{tokens_for, counted}
use Rattle.states.proofs.Bases.{long, wires_are}
use Rattle.states.proofs.Fits.{state_wrong, state_right}
use Rattle.states.proofs.state_fits.Goals as goal

pub wires_fit-requires : goal.wires_fit-requires
wires_fit-requires c = long c.args.basis.now _ c.plan.ensures c.args.state.now c.requires

pub returns-then-wires_fit : goal.returns-then-wires_fit
returns-then-wires_fit c =
    let b = c.args.basis.now in
    let w = wires_are b _ c.plan.ensures c.args.state.now _ c.wires_fit.ensures in
    state_right _ _ (tokens_for b) (counted b) c.args.state.now _ w _ c.if-wires_fit.true c.owns_fit.ensures

pub returns-else-wires_fit : goal.returns-else-wires_fit
returns-else-wires_fit c =
    let b = c.args.basis.now in
    let w = wires_are b _ c.plan.ensures c.args.state.now _ c.wires_fit.ensures in
    c.if-wires_fit.false ∙ state_wrong _ _ (tokens_for b) (counted b) c.args.state.now _ w c.if-wires_fit.false
