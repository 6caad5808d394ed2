use mathlib.Core.Path.{◌≡◌, refl, sym, ◌∙◌}
use mathlib.Core.List.{[]}
use Prim.Native.Nat.{ℕ, ◌+◌, ◌≤◌}
use native.Mathlib.Nat.{pos_of_ne-zero}
use native.Mathlib.Omega.{arith}
use Rattle.std.proofs.lemmas.Result.{err_from_is_err_and}
use Rattle.model.specs.Expressions.{head_size}
use Rattle.expressions.proofs.Reading.{head_pos}
use Rattle.expressions.proofs.Turns.{call, deep, whole, head_inside, begin, two_up, three_is}
use Rattle.evaluation.proofs.Valuing.{Work, Operand, operand, asked, is_there, small, first, exit_first, exit_one, chosen, exit_second, exit_two, exit_if, if_more, cast_precise, stored}
use Rattle.evaluation.proofs.+value_at.Goals as goal
use Rattle.evaluation.proofs.+value_at.Goals.{After-operands-k}

-- the call, once the code and the count of its operands are known
abbrev work : (t : ℕ) (c : After-operands-k t) → Work
work t c = record {
  call = call c.args.s.now c.args.at c.args.depth c.byte_at-c.ensures c.operands-k.ensures.0 c.requires.at_in_bounds c.requires.s_value;
  names = c.args.env.now;
  typed = c.requires.s_value_2;
}

-- the first operand stands behind the head, of h bytes
first_at : (w : Work) {h : ℕ} → (h ≡ head_size w.call.c) × (h ≤ 7) → (w.call.k ≡ 0 → ⊥) → Operand w [] w.call.k (w.call.at + h)
first_at w e l = operand w (begin w.call e.0) (pos_of_ne-zero l)

pub leaf_value-requires-clause-s_value : goal.leaf_value-requires-clause-s_value
leaf_value-requires-clause-s_value t c =
    let w = work t (goal.at.leaf_value-requires-clause-s_value t c).After-operands-k in
    whole w.call

pub overflow_sub-depth : goal.overflow_sub-depth
overflow_sub-depth t c =
    let w = work t (goal.at.overflow_sub-depth t c).After-operands-k in
    deep w.call

pub value_at-requires : goal.value_at-requires
value_at-requires t c =
    let w = work t (goal.at.value_at-requires t c).After-operands-k in
    asked (first_at w c.head_size.ensures c.if-k-eq0.false) c.decreases

pub returns-in_err-a : goal.returns-in_err-a
returns-in_err-a t c =
    let w = work t (goal.at.returns-in_err-a t c).After-operands-k in
    let o = first_at w c.head_size.ensures c.if-k-eq0.false in
    let e = err_from_is_err_and c.from_residual.result c.from_residual.ensures.1 in
    rw (e.1, e.2) (sym (exit_first o _ (sym c.value_at.ensures ∙ c.in_err-a.was)))

pub type_at-requires : goal.type_at-requires
type_at-requires t c =
    let w = work t (goal.at.type_at-requires t c).After-operands-k in
    omega (arith, head_inside w.call, head_pos w.call.c)

pub one_value-requires-clause-le_p : goal.one_value-requires-clause-le_p
one_value-requires-clause-le_p t c e =
    let w = work t (goal.at.one_value-requires-clause-le_p t c).After-operands-k in
    cast_precise w.call c.type_at.ensures e

pub one_value-requires-clause-le_p_2 : goal.one_value-requires-clause-le_p_2
one_value-requires-clause-le_p_2 t c =
    let w = work t (goal.at.one_value-requires-clause-le_p_2 t c).After-operands-k in
    let g = first (first_at w c.head_size.ensures c.if-k-eq0.false) (sym c.value_at.ensures ∙ c.in_ok-a.was) in
    (g.small.low, omega (arith, g.small.high))

pub returns-then-k-eq1 : goal.returns-then-k-eq1
returns-then-k-eq1 t c =
    let w = work t (goal.at.returns-then-k-eq1 t c).After-operands-k in
    let g = first (first_at w c.head_size.ensures c.if-k-eq0.false) (sym c.value_at.ensures ∙ c.in_ok-a.was) in
    c.one_value.ensures ∙ sym (exit_one g c.if-k-eq1.true c.type_at.ensures refl)

pub second_from-from-requires : goal.second_from-from-requires
second_from-from-requires t c =
    let w = work t (goal.at.second_from-from-requires t c).After-operands-k in
    let g = first (first_at w c.head_size.ensures c.if-k-eq0.false) (sym c.value_at.ensures ∙ c.in_ok-a.was) in
    is_there (operand w g.reached (two_up _ c.if-k-eq0.false c.if-k-eq1.false))

pub overflow_sub-depth-2 : goal.overflow_sub-depth-2
overflow_sub-depth-2 t c =
    let w = work t (goal.at.overflow_sub-depth-2 t c).After-operands-k in
    deep w.call

pub value_at-requires-2 : goal.value_at-requires-2
value_at-requires-2 t c =
    let w = work t (goal.at.value_at-requires-2 t c).After-operands-k in
    let g = first (first_at w c.head_size.ensures c.if-k-eq0.false) (sym c.value_at.ensures ∙ c.in_ok-a.was) in
    let h = chosen g (two_up _ c.if-k-eq0.false c.if-k-eq1.false) (stored g.small) c.second_from-from.ensures in
    asked h.it c.decreases

pub returns-in_err-b : goal.returns-in_err-b
returns-in_err-b t c =
    let w = work t (goal.at.returns-in_err-b t c).After-operands-k in
    let g = first (first_at w c.head_size.ensures c.if-k-eq0.false) (sym c.value_at.ensures ∙ c.in_ok-a.was) in
    let l = two_up w.call.k c.if-k-eq0.false c.if-k-eq1.false in
    let h = chosen g l (stored g.small) c.second_from-from.ensures in
    let e = err_from_is_err_and c.from_residual-in_err-b.result c.from_residual-in_err-b.ensures.1 in
    rw (e.1, e.2) (sym (exit_second h _ l (sym c.value_at-2.ensures ∙ c.in_err-b.was)))

pub two_value-requires-clause-le_p : goal.two_value-requires-clause-le_p
two_value-requires-clause-le_p t c =
    let w = work t (goal.at.two_value-requires-clause-le_p t c).After-operands-k in
    let g = first (first_at w c.head_size.ensures c.if-k-eq0.false) (sym c.value_at.ensures ∙ c.in_ok-a.was) in
    (g.small.low, g.small.high)

pub two_value-requires-clause-bound : goal.two_value-requires-clause-bound
two_value-requires-clause-bound t c =
    let w = work t (goal.at.two_value-requires-clause-bound t c).After-operands-k in
    let g = first (first_at w c.head_size.ensures c.if-k-eq0.false) (sym c.value_at.ensures ∙ c.in_ok-a.was) in
    let h = chosen g (two_up _ c.if-k-eq0.false c.if-k-eq1.false) (stored g.small) c.second_from-from.ensures in
    let b = small h.it (sym c.value_at-2.ensures ∙ c.in_ok-b.was) in
    (g.small.small, b.small)

pub returns-then-k-eq2 : goal.returns-then-k-eq2
returns-then-k-eq2 t c =
    let w = work t (goal.at.returns-then-k-eq2 t c).After-operands-k in
    let g = first (first_at w c.head_size.ensures c.if-k-eq0.false) (sym c.value_at.ensures ∙ c.in_ok-a.was) in
    let h = chosen g (two_up _ c.if-k-eq0.false c.if-k-eq1.false) (stored g.small) c.second_from-from.ensures in
    let a = sym c.value_at-2.ensures ∙ c.in_ok-b.was in
    c.two_value.ensures ∙ sym (exit_two h a c.if-k-eq2.true refl refl)

pub if_end-requires : goal.if_end-requires
if_end-requires t c =
    let w = work t (goal.at.if_end-requires t c).After-operands-k in
    let g = first (first_at w c.head_size.ensures c.if-k-eq0.false) (sym c.value_at.ensures ∙ c.in_ok-a.was) in
    let l = two_up w.call.k c.if-k-eq0.false c.if-k-eq1.false in
    let h = chosen g l (stored g.small) c.second_from-from.ensures in
    let a = sym c.value_at-2.ensures ∙ c.in_ok-b.was in
    if_more h a (three_is w.call l c.if-k-eq2.false) (stored g.small)

pub returns : goal.returns
returns t c =
    let w = work t (goal.at.returns t c).After-operands-k in
    let g = first (first_at w c.head_size.ensures c.if-k-eq0.false) (sym c.value_at.ensures ∙ c.in_ok-a.was) in
    let l = two_up w.call.k c.if-k-eq0.false c.if-k-eq1.false in
    let h = chosen g l (stored g.small) c.second_from-from.ensures in
    let a = sym c.value_at-2.ensures ∙ c.in_ok-b.was in
    exit_if h a (three_is w.call l c.if-k-eq2.false) (stored g.small) (stored (small h.it a)) c.if_end.ensures
