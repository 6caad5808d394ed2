use mathlib.Core.Path.{sym, ap, ◌∙◌}
use borrow.Author.Rules.{rules}
use Rattle.model.specs.States.{token_field}
use Rattle.model.proofs.Accepted.{field_found}
use Rattle.token_file.proofs.Laws.{end_cut, end_bad, end_good}
use Rattle.token_file.proofs.field_end.Goals as goal

pub returns-in_err-field : goal.returns-in_err-field
returns-in_err-field c = c.from_residual.ensures ∙ end_cut _ _ _ (sym c.in_err-field.ensures)

pub part-body-requires : goal.part-body-requires
part-body-requires c = (field_found _ _ _ (sym c.in_ok-field.ensures)).ends

pub returns-then-not-token_field : goal.returns-then-not-token_field
returns-then-not-token_field c =
    end_bad _ _ _ _ (sym c.in_ok-field.ensures) (ap (token_field c.args.t _) (sym c.part-body.ensures.bytes) ∙ sym c.token_field.ensures ∙ c.if-not-token_field.true)

pub overflow_add-result : goal.overflow_add-result
overflow_add-result c = let inside = (field_found _ _ _ (sym c.in_ok-field.ensures)).ends in search rules

pub returns : goal.returns
returns c =
    end_good _ _ _ _ (sym c.in_ok-field.ensures) (ap (token_field c.args.t _) (sym c.part-body.ensures.bytes) ∙ sym c.token_field.ensures ∙ c.if-not-token_field.false)
