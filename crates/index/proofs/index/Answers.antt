use mathlib.Core.Path.{◌∙◌}
use native.Mathlib.Omega.{arith}
use borrow.Author.Rules.{rules}
use Rattle.std.proofs.lemmas.Result.{err_from_is_err_and}
use Rattle.model.specs.NetworkFile.{no_fields}
use Rattle.model.proofs.Accepted.{valid_none, added, field_found}
use Rattle.table.specs.Table.{index_in, region}
use Rattle.table.proofs.Lengths.{roomy}
use Rattle.index.proofs.Going.{placed_is, placed_sound, started, ended, stopped_at, on}
use Rattle.index.proofs.Tags.{still_sound}
use Rattle.index.proofs.index.Goals as goal

pub loop-at-init : goal.loop-at-init
unfolding no_fields index_in region
loop-at-init c = record { going = started _ _; valid = valid_none _ }

pub returns-in_err-field-clause-result_after : goal.returns-in_err-field-clause-result_after
returns-in_err-field-clause-result_after c =
    let p = err_from_is_err_and c.from_residual.result c.from_residual.ensures.1 in
    let q = placed_is c.loop-at.at c.next_field.result _ _ (λ e y h. search rules) c.map_err.ensures.cases in
    rw (p.1, p.2) (stopped_at _ _ _ _ c.loop-at.invariant.going _ _ c.loop-at-test.true c.next_field.ensures (q ∙ c.in_err-field.was))

pub note-c-requires-clause-room : goal.note-c-requires-clause-room
note-c-requires-clause-room c =
    let i = c.loop-at.invariant in
    let q = placed_is c.loop-at.at c.next_field.result _ _ (λ e y h. search rules) c.map_err.ensures.cases in
    let f = placed_sound _ _ _ _ _ c.next_field.ensures (q ∙ c.in_ok-field.was) in
    roomy _ _ (omega arith) i.going.within _ _ (added _ _ _ _ f.right)

pub overflow_add-at : goal.overflow_add-at
overflow_add-at c =
    let q = placed_is c.loop-at.at c.next_field.result _ _ (λ e y h. search rules) c.map_err.ensures.cases in
    let f = placed_sound _ _ _ _ _ c.next_field.ensures (q ∙ c.in_ok-field.was) in
    let w = field_found _ _ _ f.there in
    omega arith

pub loop-at-smaller : goal.loop-at-smaller
loop-at-smaller c =
    let q = placed_is c.loop-at.at c.next_field.result _ _ (λ e y h. search rules) c.map_err.ensures.cases in
    let f = placed_sound _ _ _ _ _ c.next_field.ensures (q ∙ c.in_ok-field.was) in
    let w = field_found _ _ _ f.there in
    omega arith

pub loop-at-preserved : goal.loop-at-preserved
loop-at-preserved c =
    let i = c.loop-at.invariant in
    let q = placed_is c.loop-at.at c.next_field.result _ _ (λ e y h. search rules) c.map_err.ensures.cases in
    let f = placed_sound _ _ _ _ _ c.next_field.ensures (q ∙ c.in_ok-field.was) in
    record {
      going = on _ _ _ _ i.going _ _ _ c.loop-at-test.true f c.note-c.ensures;
      valid = still_sound _ _ _ _ _ _ _ i.valid f c.note-c.ensures;
    }

pub returns-clause-result_after : goal.returns-clause-result_after
returns-clause-result_after c = ended _ _ _ _ c.loop-at.invariant.going (omega arith)
