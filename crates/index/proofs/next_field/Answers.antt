use mathlib.Core.Path.{◌≡◌, sym, ap, ◌∙◌}
use Rattle.std.proofs.lemmas.Result.{err_from_is_err_and}
use Rattle.model.specs.NetworkFile.{field_fault}
use Rattle.model.specs.declared.Reason.TheVariants as reason
use Rattle.model.specs.Reasons.{fault_said}
use Rattle.model.proofs.Accepted.{field_found}
use Rattle.index.proofs.Going.{cut, faulty, sound}
use Rattle.index.proofs.next_field.Goals as goal

pub returns-in_err-field : goal.returns-in_err-field
returns-in_err-field c =
    let p = err_from_is_err_and c.from_residual.result c.from_residual.ensures.1 in
    let e = c.in_err-field.ensures in
    let v = rw e.ok_part at e.value in
    let f : c.in_err-field.field-0.0 ≡ reason.Form = cc in
    rw (p.1, p.2, f) (cut _ _ _ (sym c.field_at.ensures ∙ e.ok_part))

pub part-body-requires : goal.part-body-requires
part-body-requires c = (field_found _ _ _ (sym c.field_at.ensures ∙ c.in_ok-field.ensures.ok_part)).ends

pub returns-in_err-field_fault : goal.returns-in_err-field_fault
unfolding fault_said
returns-in_err-field_fault c =
    let r = c.from_residual-in_err-field_fault in
    let p = err_from_is_err_and r.result r.ensures.1 in
    rw (p.1, p.2) (faulty _ _ _ _ (sym c.field_at.ensures ∙ c.in_ok-field.ensures.ok_part) _ (c.in_err-field_fault.ensures ∙ ap (field_fault _ _ _) c.part-body.ensures.bytes))

pub returns : goal.returns
unfolding fault_said
returns c = sound _ _ _ _ (sym c.field_at.ensures ∙ c.in_ok-field.ensures.ok_part) (c.in_ok-field_fault.ensures ∙ ap (field_fault _ _ _) c.part-body.ensures.bytes)
