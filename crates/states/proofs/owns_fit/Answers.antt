use mathlib.Core.Path.{sym, ◌∙◌}
use mathlib.Core.Bool.{true, false}
use native.Mathlib.Omega.{arith}
use Rattle.states.specs.Saved.{plan_of, tokens_for, network_for, counted}
use Rattle.states.proofs.Bases.{of_plan}
use Rattle.states.proofs.Fits.{owns_turn, owns_done, procs_n}
use Rattle.states.proofs.owns_fit.Goals as goal

pub own_fits-requires-clause-k_bound : goal.own_fits-requires-clause-k_bound
own_fits-requires-clause-k_bound c = of_plan c.args.basis.now _ c.plan.ensures _ (omega arith)

pub returns-then-not-own_fits : goal.returns-then-not-own_fits
returns-then-not-own_fits c =
    let b = c.args.basis.now in
    let less = of_plan b _ c.plan.ensures c.loop-k.k (omega arith) in
    let long = procs_n _ _ _ (plan_of b).net.tabled (tokens_for b) in
    sym (owns_turn (network_for b) c.args.state.now (counted b) c.loop-k.k _ false (omega (arith, less, long)) c.own_fits.ensures c.if-not-own_fits.true) ∙ c.loop-k.invariant

pub loop-k-preserved : goal.loop-k-preserved
loop-k-preserved c =
    let b = c.args.basis.now in
    let less = of_plan b _ c.plan.ensures c.loop-k.k (omega arith) in
    let long = procs_n _ _ _ (plan_of b).net.tabled (tokens_for b) in
    sym (owns_turn (network_for b) c.args.state.now (counted b) c.loop-k.k _ true (omega (arith, less, long)) c.own_fits.ensures c.if-not-own_fits.false) ∙ c.loop-k.invariant

pub returns : goal.returns
returns c =
    let b = c.args.basis.now in
    let most = rw c.plan.ensures at c.loop-k-test.false in
    let long = procs_n _ _ _ (plan_of b).net.tabled (tokens_for b) in
    sym (owns_done (network_for b) c.args.state.now (counted b) c.loop-k.k (omega (arith, most, long))) ∙ c.loop-k.invariant
