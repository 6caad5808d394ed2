use mathlib.Core.Path.{◌≡◌}
use Prim.Native.Nat.{◌-◌}
use Rattle.types.specs.Scopes.{scope_in}
use Rattle.evaluation.specs.Named.{named_by}
use Rattle.actions.proofs.Acting.{Ready, faults_from}
use Rattle.actions.proofs.actions_fault.Given as goal

-- the actions that are left can be worked out, and their first fault is the first of all
abbrev pub invariant-loop-action : goal.invariant-loop-action
invariant-loop-action g l = record {
  ready : Ready (scope_in l.env.types) g.var l.b (l.n - l._action) l.at;
  left : faults_from (named_by l.env) g.var l.b (l.n - l._action) l.at ≡ faults_from (named_by l.env) g.var l.b l.n l.from;
}
