use mathlib.Core.Path.{sym, ◌∙◌}
use mathlib.Core.Bool.{true, false}
use native.Mathlib.Omega.{arith}
use Rattle.lookup.specs.Views.{network_of}
use Rattle.states.proofs.Fits.{wires_turn, wires_done, wires_n}
use Rattle.states.proofs.wires_fit.Goals as goal

pub returns-then-not-wire_fits : goal.returns-then-not-wire_fits
returns-then-not-wire_fits c =
    let l = c.loop-w in
    let long = wires_n _ _ _ c.args.plan.now.net.tabled in
    sym (wires_turn (network_of c.args.plan.now.net) c.args.state.now l.w _ false (omega (arith, long)) c.wire_fits.ensures c.if-not-wire_fits.true) ∙ l.invariant

pub loop-w-preserved : goal.loop-w-preserved
loop-w-preserved c =
    let l = c.loop-w in
    let long = wires_n _ _ _ c.args.plan.now.net.tabled in
    sym (wires_turn (network_of c.args.plan.now.net) c.args.state.now l.w _ true (omega (arith, long)) c.wire_fits.ensures c.if-not-wire_fits.false) ∙ l.invariant

pub returns : goal.returns
returns c =
    let l = c.loop-w in
    let long = wires_n _ _ _ c.args.plan.now.net.tabled in
    sym (wires_done (network_of c.args.plan.now.net) c.args.state.now l.w (omega (arith, long))) ∙ l.invariant
