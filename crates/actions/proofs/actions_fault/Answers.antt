use mathlib.Core.Path.{◌≡◌, refl, sym, ap, ◌∙◌, subst}
use Prim.Native.Nat.{ℕ, ◌+◌, ◌-◌}
use native.Mathlib.Omega.{arith}
use Rattle.std.proofs.lemmas.Result.{err_from_is_err_and}
use Rattle.types.specs.Scopes.{scope_in}
use Rattle.evaluation.specs.Named.{named_by}
use Rattle.typing.proofs.Patterns.{minus_zero}
use Rattle.actions.proofs.Acting.{Ready, ready_there, ready_first, faults_from, faults_end, faults_here, faults_on}
use Rattle.actions.proofs.actions_fault.Goals as goal

pub loop-action-init : goal.loop-action-init
loop-action-init g c =
    let a = c.args in
    let z = sym (minus_zero a.n) in
    record {
      ready = subst (λ (j : ℕ). Ready (scope_in a.env.now.types) g.var a.b.now j a.from) z (record { limits = c.requires.1.0; typed = c.requires.1.1 });
      left = ap (λ (j : ℕ). faults_from (named_by a.env.now) g.var a.b.now j a.from) (sym z);
    }

pub action_fault-requires : goal.action_fault-requires
action_fault-requires g c =
    let i = c.loop-action in
    let f = ready_first _ _ _ (c.args.n - i._action) i.at (omega arith) i.invariant.ready _ refl in
    record { at_in_bounds = f.inside; b_value = f.limits; b_value_2 = f.typed }

pub returns-in_err-action_fault : goal.returns-in_err-action_fault
returns-in_err-action_fault g c =
    let i = c.loop-action in
    let f = ready_first _ _ _ (c.args.n - i._action) i.at (omega arith) i.invariant.ready _ refl in
    let w = err_from_is_err_and c.from_residual.result c.from_residual.ensures.1 in
    rw (w.1, w.2) (faults_here _ _ _ _ (c.args.n - i._action) i.at _ f i.invariant.left _ (sym c.in_err-action_fault.was ∙ c.action_fault.ensures))

pub skip_action-at-requires : goal.skip_action-at-requires
skip_action-at-requires g c =
    let i = c.loop-action in
    ready_there _ _ _ (c.args.n - i._action) i.at (omega arith) i.invariant.ready

pub loop-action-preserved : goal.loop-action-preserved
loop-action-preserved g c =
    let i = c.loop-action in
    let f = ready_first _ _ _ (c.args.n - i._action) i.at (omega arith) i.invariant.ready _ c.skip_action-at.ensures in
    let q : c.args.n - i._action - 1 ≡ c.args.n - (i._action + 1) = omega arith in
    let q' = faults_on _ _ _ _ (c.args.n - i._action) i.at _ f i.invariant.left (sym c.in_ok-action_fault.was ∙ c.action_fault.ensures) in
    record { ready = rw q at f.rest; left = rw q at q' }

pub returns : goal.returns
returns g c =
    let i = c.loop-action in
    sym (faults_end _ _ _ (c.args.n - i._action) i.at (omega arith)) ∙ i.invariant.left
