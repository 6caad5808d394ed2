use native.Mathlib.Omega.{arith}
use Rattle.values.proofs.Machine.{back}
use Rattle.expressions.proofs.Leaves.{Leaf, leaf_inside}
use Rattle.evaluation.proofs.Leaves.{leaf_literal, leaf_matched, leaf_variable}
use Rattle.evaluation.proofs.leaf_value.Goals as goal
use Rattle.evaluation.proofs.leaf_value.Goals.{After-byte_at-c}

abbrev leaf : After-byte_at-c → Leaf
leaf c = record { s = c.args.s.now; at = c.args.at; c = c.byte_at-c.result; head = c.byte_at-c.ensures; inside = c.requires.at_in_bounds; whole = c.requires.s_value; bare = c.requires.at_value }

pub type_at-requires : goal.type_at-requires
type_at-requires c = omega (arith, leaf_inside (leaf (goal.at.type_at-requires c).After-byte_at-c))

pub returns-then-c-eq0 : goal.returns-then-c-eq0
returns-then-c-eq0 c =
    leaf_literal (leaf (goal.at.returns-then-c-eq0 c).After-byte_at-c) _ _ (back c.value_at.type_inv) c.if-c-eq0.true c.type_at.ensures c.value_at.ensures.0

pub returns-then-c-eq1 : goal.returns-then-c-eq1
returns-then-c-eq1 c =
    leaf_matched (leaf (goal.at.returns-then-c-eq1 c).After-byte_at-c) _ _ (back c.kept.type_inv) c.byte_at-i.ensures c.if-c-eq1.true c.named.ensures c.kept.ensures

pub returns : goal.returns
returns c =
    leaf_variable (leaf (goal.at.returns c).After-byte_at-c) _ _ (back c.kept-2.type_inv) c.byte_at-i.ensures c.if-c-eq0.false c.if-c-eq1.false c.named-2.ensures c.kept-2.ensures
