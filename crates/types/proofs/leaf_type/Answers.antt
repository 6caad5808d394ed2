use Rattle.std.proofs.Common.{sym, ◌∙◌, arith}
use Rattle.values.proofs.Machine.{back}
use Rattle.expressions.proofs.Leaves.{leaf_at, leaf_inside, leaf_precise, leaf_two}
use Rattle.types.specs.Scopes.{scope_in}
use Rattle.types.proofs.Judging.{given_by}
use Rattle.types.proofs.Leaves.{leaf_literal, leaf_matched, leaf_variable}
use Rattle.types.proofs.leaf_type.Goals as goal
use Rattle.types.proofs.leaf_type.Goals.{then-is_plain, else-is_plain, then-c-eq1, else-c-eq1}

pub type_at-t-requires : goal.type_at-t-requires
type_at-t-requires c =
    let q = c.requires in
    omega (arith, leaf_inside (leaf_at c.args.s.now c.args.at c.byte_at-c.ensures q.inside q.whole q.bare))

pub within-requires : goal.within-requires
within-requires c =
    let q = c.requires in
    let x = leaf_at c.args.s.now c.args.at c.byte_at-c.ensures q.inside q.whole q.bare in
    let p = leaf_precise x c.if-c-eq0.true q.precise c.type_at-t.ensures in
    record { le_p = p.0; p_bound = p.1 }

pub returns-then-c-eq0 : goal.returns-then-c-eq0
returns-then-c-eq0 c =
    let q = c.requires in
    let x = leaf_at c.args.s.now c.args.at c.byte_at-c.ensures q.inside q.whole q.bare in
    let literal = leaf_literal x (scope_in c.args.types.now) c.if-c-eq0.true c.type_at-t.ensures c.value_at-z.ensures.0 in
    let value = back {z = c.value_at-z.result} (omega (arith, c.value_at-z.ensures.1)) in
    c.then_some.ensures
    ∙ elim c.if-is_plain.branch [
      | then-is_plain w ↦ given_by _ literal (w.then_some-is ∙ w.within.ensures ∙ rw (value, sym c.is_plain.ensures ∙ w.if-is_plain.true))
      | else-is_plain w ↦ given_by _ literal (w.then_some-is ∙ w.if-is_plain.false ∙ rw (sym c.is_plain.ensures ∙ w.if-is_plain.false))
    ]

pub returns : goal.returns
returns c =
    let q = c.requires in
    let x = leaf_at c.args.s.now c.args.at c.byte_at-c.ensures q.inside q.whole q.bare in
    c.then_some-2.ensures
    ∙ elim c.if-c-eq1.branch [
      | then-c-eq1 w ↦ given_by _ (leaf_matched x c.args.types.now c.byte_at.ensures w.if-c-eq1.true (rw w.from-is at c.named-t.ensures)) c.is_plain-2.ensures
      | else-c-eq1 w ↦ given_by _ (leaf_variable x c.args.types.now c.byte_at.ensures (leaf_two x c.if-c-eq0.false w.if-c-eq1.false) (rw w.from-is at c.named-t.ensures)) c.is_plain-2.ensures
    ]
