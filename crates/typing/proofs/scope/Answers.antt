use mathlib.Core.Path.{◌≡◌, ap, ◌∙◌}
use mathlib.Core.List.{List}
use Prim.Native.Nat.{ℕ, ◌+◌, ◌*◌}
use native.Mathlib.Omega.{arith}
use lib.ListN.{length, length-set}
use Rattle.typing.proofs.Patterns.{put_type, put_both, inputs_more, variables_more, scope_agree}
use Rattle.typing.proofs.scope.Goals as goal

pub loop-k-preserved : goal.loop-k-preserved
loop-k-preserved c =
    let i = c.loop-k in
    let m = c.matched_type.result in
    let v = c.variable_type.result in
    let e : c.put_type-in-loop-k.new.types ≡ put_both i.types i.k m v = c.put_type-in-loop-k.ensures ∙ ap (λ (ts : List ℕ). put_type ts (8 + 2 * i.k) v) c.put_type.ensures in
    record {
      size = ap length e ∙ simp length-set i.invariant.size;
      inputs = rw e (inputs_more i.types i.k m v (omega arith) i.invariant.size _ i.invariant.inputs c.matched_type.ensures);
      variables = rw e (variables_more i.types i.k m v (omega arith) i.invariant.size _ i.invariant.variables c.variable_type.ensures);
    }

pub returns : goal.returns
returns c =
    let a = c.args in
    let i = c.loop-k.invariant in
    scope_agree _ a.ins.now a.vars.now a.a.ins a.a.vars _ c.requires.ins_bound.0 c.requires.ins_bound.1 (λ j h. i.inputs j (omega arith)) (λ j h. i.variables j (omega arith))
