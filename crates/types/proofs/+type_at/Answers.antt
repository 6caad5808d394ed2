use mathlib.Core.Path.{sym, ◌∙◌}
use Prim.Native.Nat.{◌-◌, ◌<◌}
use native.Mathlib.Nat.{pos_of_ne-zero}
use native.Mathlib.Omega.{arith}
use Rattle.std.proofs.lemmas.Result.{err_from_is_err_and}
use Rattle.expressions.proofs.Reading.{head_pos}
use Rattle.expressions.proofs.Leaves.{leaf_at}
use Rattle.expressions.proofs.Turns.{call, deep, whole, precise, no_operands, head_inside, two_up, three_is}
use Rattle.types.specs.Scopes.{scope_in}
use Rattle.types.proofs.Leaves.{leaf_answer}
use Rattle.types.proofs.Exits.{unjudged, asked, onward, exit_ill, exit_one, exit_two, exit_if}
use Rattle.types.proofs.+type_at.Goals as goal

pub leaf_type-requires-clause-whole : goal.leaf_type-requires-clause-whole
leaf_type-requires-clause-whole t c =
    let x = call c.args.s.now c.args.at c.args.depth c.byte_at-c.ensures c.operands-k.ensures.0 c.requires.inside c.requires.fits in
    whole x

pub leaf_type-requires-clause-precise : goal.leaf_type-requires-clause-precise
leaf_type-requires-clause-precise t c =
    let x = call c.args.s.now c.args.at c.args.depth c.byte_at-c.ensures c.operands-k.ensures.0 c.requires.inside c.requires.fits in
    precise x

pub returns-then-k-eq0 : goal.returns-then-k-eq0
returns-then-k-eq0 t c =
    let x = call c.args.s.now c.args.at c.args.depth c.byte_at-c.ensures c.operands-k.ensures.0 c.requires.inside c.requires.fits in
    let y = leaf_at c.args.s.now c.args.at c.byte_at-c.ensures c.requires.inside (whole x) (no_operands x c.if-k-eq0.true) in
    c.by_rule.ensures ∙ rw (c.leaf_type.ensures, c.head_size.ensures.0) (leaf_answer y c.args.types.now)

pub overflow_sub-depth : goal.overflow_sub-depth
overflow_sub-depth t c =
    let x = call c.args.s.now c.args.at c.args.depth c.byte_at-c.ensures c.operands-k.ensures.0 c.requires.inside c.requires.fits in
    deep x

pub type_at-requires : goal.type_at-requires
type_at-requires t c =
    let x = call c.args.s.now c.args.at c.args.depth c.byte_at-c.ensures c.operands-k.ensures.0 c.requires.inside c.requires.fits in
    let some = pos_of_ne-zero c.if-k-eq0.false in
    let first = unjudged (scope_in c.args.types.now) x c.head_size.ensures.0 in
    asked first some c.decreases

pub returns-in_err-a : goal.returns-in_err-a
returns-in_err-a t c =
    let x = call c.args.s.now c.args.at c.args.depth c.byte_at-c.ensures c.operands-k.ensures.0 c.requires.inside c.requires.fits in
    let some = pos_of_ne-zero c.if-k-eq0.false in
    let first = unjudged (scope_in c.args.types.now) x c.head_size.ensures.0 in
    let w = err_from_is_err_and c.from_residual.result c.from_residual.ensures.1 in
    rw (w.1, w.2) (sym (exit_ill first _ some (sym c.type_at.ensures ∙ c.in_err-a.was)))

pub type_at-named-requires : goal.type_at-named-requires
type_at-named-requires t c =
    let x = call c.args.s.now c.args.at c.args.depth c.byte_at-c.ensures c.operands-k.ensures.0 c.requires.inside c.requires.fits in
    omega (arith, head_inside x, head_pos x.c)

pub returns-then-k-eq1 : goal.returns-then-k-eq1
returns-then-k-eq1 t c =
    let x = call c.args.s.now c.args.at c.args.depth c.byte_at-c.ensures c.operands-k.ensures.0 c.requires.inside c.requires.fits in
    let some = pos_of_ne-zero c.if-k-eq0.false in
    let first = unjudged (scope_in c.args.types.now) x c.head_size.ensures.0 in
    let second = onward first some (sym c.type_at.ensures ∙ c.in_ok-a.was) in
    c.by_rule-then-k-eq1.ensures ∙ rw c.one_type.ensures (exit_one second c.if-k-eq1.true c.type_at-named.ensures)

pub overflow_sub-depth-2 : goal.overflow_sub-depth-2
overflow_sub-depth-2 t c =
    let x = call c.args.s.now c.args.at c.args.depth c.byte_at-c.ensures c.operands-k.ensures.0 c.requires.inside c.requires.fits in
    deep x

pub type_at-requires-2 : goal.type_at-requires-2
type_at-requires-2 t c =
    let x = call c.args.s.now c.args.at c.args.depth c.byte_at-c.ensures c.operands-k.ensures.0 c.requires.inside c.requires.fits in
    let some = pos_of_ne-zero c.if-k-eq0.false in
    let first = unjudged (scope_in c.args.types.now) x c.head_size.ensures.0 in
    let second = onward first some (sym c.type_at.ensures ∙ c.in_ok-a.was) in
    let two_left = two_up _ c.if-k-eq0.false c.if-k-eq1.false in
    asked second two_left c.decreases

pub returns-in_err-b : goal.returns-in_err-b
returns-in_err-b t c =
    let x = call c.args.s.now c.args.at c.args.depth c.byte_at-c.ensures c.operands-k.ensures.0 c.requires.inside c.requires.fits in
    let some = pos_of_ne-zero c.if-k-eq0.false in
    let first = unjudged (scope_in c.args.types.now) x c.head_size.ensures.0 in
    let second = onward first some (sym c.type_at.ensures ∙ c.in_ok-a.was) in
    let two_left = two_up _ c.if-k-eq0.false c.if-k-eq1.false in
    let w = err_from_is_err_and c.from_residual-in_err-b.result c.from_residual-in_err-b.ensures.1 in
    rw (w.1, w.2) (sym (exit_ill second _ two_left (sym c.type_at-2.ensures ∙ c.in_err-b.was)))

pub returns-then-k-eq2 : goal.returns-then-k-eq2
returns-then-k-eq2 t c =
    let x = call c.args.s.now c.args.at c.args.depth c.byte_at-c.ensures c.operands-k.ensures.0 c.requires.inside c.requires.fits in
    let some = pos_of_ne-zero c.if-k-eq0.false in
    let first = unjudged (scope_in c.args.types.now) x c.head_size.ensures.0 in
    let second = onward first some (sym c.type_at.ensures ∙ c.in_ok-a.was) in
    let two_left = two_up _ c.if-k-eq0.false c.if-k-eq1.false in
    let third = onward second two_left (sym c.type_at-2.ensures ∙ c.in_ok-b.was) in
    c.by_rule-then-k-eq2.ensures ∙ rw c.two_type.ensures (exit_two third c.if-k-eq2.true)

pub overflow_sub-depth-3 : goal.overflow_sub-depth-3
overflow_sub-depth-3 t c =
    let x = call c.args.s.now c.args.at c.args.depth c.byte_at-c.ensures c.operands-k.ensures.0 c.requires.inside c.requires.fits in
    deep x

pub type_at-requires-3 : goal.type_at-requires-3
type_at-requires-3 t c =
    let x = call c.args.s.now c.args.at c.args.depth c.byte_at-c.ensures c.operands-k.ensures.0 c.requires.inside c.requires.fits in
    let some = pos_of_ne-zero c.if-k-eq0.false in
    let first = unjudged (scope_in c.args.types.now) x c.head_size.ensures.0 in
    let second = onward first some (sym c.type_at.ensures ∙ c.in_ok-a.was) in
    let two_left = two_up _ c.if-k-eq0.false c.if-k-eq1.false in
    let third = onward second two_left (sym c.type_at-2.ensures ∙ c.in_ok-b.was) in
    let all_three = three_is x two_left c.if-k-eq2.false in
    let three_left : 0 < x.k - 1 - 1 = omega (arith, all_three) in
    asked third three_left c.decreases

pub returns-in_err-d : goal.returns-in_err-d
returns-in_err-d t c =
    let x = call c.args.s.now c.args.at c.args.depth c.byte_at-c.ensures c.operands-k.ensures.0 c.requires.inside c.requires.fits in
    let some = pos_of_ne-zero c.if-k-eq0.false in
    let first = unjudged (scope_in c.args.types.now) x c.head_size.ensures.0 in
    let second = onward first some (sym c.type_at.ensures ∙ c.in_ok-a.was) in
    let two_left = two_up _ c.if-k-eq0.false c.if-k-eq1.false in
    let third = onward second two_left (sym c.type_at-2.ensures ∙ c.in_ok-b.was) in
    let all_three = three_is x two_left c.if-k-eq2.false in
    let three_left : 0 < x.k - 1 - 1 = omega (arith, all_three) in
    let w = err_from_is_err_and c.from_residual-in_err-d.result c.from_residual-in_err-d.ensures.1 in
    rw (w.1, w.2) (sym (exit_ill third _ three_left (sym c.type_at-3.ensures ∙ c.in_err-d.was)))

pub returns : goal.returns
returns t c =
    let x = call c.args.s.now c.args.at c.args.depth c.byte_at-c.ensures c.operands-k.ensures.0 c.requires.inside c.requires.fits in
    let some = pos_of_ne-zero c.if-k-eq0.false in
    let first = unjudged (scope_in c.args.types.now) x c.head_size.ensures.0 in
    let second = onward first some (sym c.type_at.ensures ∙ c.in_ok-a.was) in
    let two_left = two_up _ c.if-k-eq0.false c.if-k-eq1.false in
    let third = onward second two_left (sym c.type_at-2.ensures ∙ c.in_ok-b.was) in
    let all_three = three_is x two_left c.if-k-eq2.false in
    let three_left : 0 < x.k - 1 - 1 = omega (arith, all_three) in
    let fourth = onward third three_left (sym c.type_at-3.ensures ∙ c.in_ok-d.was) in
    c.by_rule-2.ensures ∙ rw c.if_type.ensures (exit_if fourth all_three)
