use Rattle.std.proofs.Common.{sym, ◌∙◌}
use borrow.Author.Tests.{ne_eqb, eqb-true, eqb-false}
use Rattle.tokens.proofs.Laws.{field_tag, field_length, field_tokens, both}
use Rattle.tokens.proofs.token_field.Goals as goal
use Rattle.tokens.proofs.token_field.Goals.{then-tag-eq32, else-tag-eq32}

pub returns-then-n-eq0 : goal.returns-then-n-eq0
returns-then-n-eq0 c =
    elim c.if-tag-eq32.branch [
      | then-tag-eq32 w ↦ c.tokens_fit.ensures ∙ sym (field_tokens _ _ _ w.if-tag-eq32.true (eqb-true _ _ (sym w.value-is ∙ c.if-n-eq0.true)))
      | else-tag-eq32 w ↦ both c.if-n-eq0.true (w.value-is ∙ ne_eqb c.args.tag 32 w.if-tag-eq32.false)
    ]

pub returns-else-n-eq0 : goal.returns-else-n-eq0
returns-else-n-eq0 c =
    elim c.if-tag-eq32.branch [
      | then-tag-eq32 w ↦ c.if-n-eq0.false ∙ sym (field_length _ _ _ w.if-tag-eq32.true (eqb-false _ _ (sym w.value-is ∙ c.if-n-eq0.false)))
      | else-tag-eq32 w ↦ c.if-n-eq0.false ∙ sym (field_tag _ _ _ w.if-tag-eq32.false)
    ]
