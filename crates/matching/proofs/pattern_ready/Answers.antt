use mathlib.Core.Path.{ap, ◌∙◌}
use native.Mathlib.Omega.{arith}
use borrow.Author.Rules.{sfits_of}
use lib.IntN.{ℤ}
use Rattle.model.specs.Values.{eq_z}
use Rattle.values.proofs.Machine.{eqb_bits}
use Rattle.matching.proofs.Laws.{ready_zero, ready_tag, ready_constant, ready_any}
use Rattle.matching.proofs.pattern_ready.Goals as goal

pub returns-then-c-eq0 : goal.returns-then-c-eq0
returns-then-c-eq0 c = ready_zero c.byte_at-c.ensures _ _ _ c.if-c-eq0.true

pub returns-then-pattern_tag-token : goal.returns-then-pattern_tag-token
returns-then-pattern_tag-token c = ready_tag c.byte_at-c.ensures _ _ _ c.if-c-eq0.false c.pattern_tag.ensures c.if-pattern_tag-token.true

pub returns-then-c : goal.returns-then-c
returns-then-c c =
    let v = c.value_at in
    ready_constant c.byte_at-c.ensures _ _ _ c.if-c-eq0.false c.pattern_tag.ensures c.if-pattern_tag-token.false c.if-c.true
    (eqb_bits v.result c.args.token.value (sfits_of v.type_inv) (sfits_of (omega arith)) ∙ ap (λ (z : ℤ). eq_z z c.args.token.value) v.ensures.0)

pub returns : goal.returns
returns c =
    ready_any c.byte_at-c.ensures _ _ _ c.if-c-eq0.false c.pattern_tag.ensures c.if-pattern_tag-token.false c.if-c.false
