use mathlib.Core.Path.{sym, ◌∙◌}
use mathlib.Core.Bool.{true}
use Rattle.std.proofs.lemmas.Result.{err_from_is_err_and}
use Rattle.trying.proofs.Judging.{outs_ready, sets_ready, chosen_outs, chosen_sets, chosen_fires}
use Rattle.trying.proofs.chosen.Goals as goal

pub actions_fault-requires : goal.actions_fault-requires
actions_fault-requires c =
    let r = outs_ready _ _ _ c.requires.work _ c.requires.outs in
    (c.requires.work.outs, (r.limits, r.typed))

pub returns-in_err-actions_fault : goal.returns-in_err-actions_fault
returns-in_err-actions_fault c =
    let h = c.requires in
    let e = err_from_is_err_and c.from_residual.result c.from_residual.ensures.1 in
    rw (e.1, e.2) (chosen_outs _ _ _ h.work _ _ _ h.outs h.sets _ (sym c.in_err-actions_fault.was ∙ c.actions_fault.ensures))

pub sets_fault-requires : goal.sets_fault-requires
sets_fault-requires c =
    let r = sets_ready _ _ _ c.requires.work _ c.requires.sets in
    record { n_bound = c.requires.work.vars; limits = r.limits; typed = r.typed }

pub returns-in_err-sets_fault : goal.returns-in_err-sets_fault
returns-in_err-sets_fault c =
    let h = c.requires in
    let e = err_from_is_err_and c.from_residual-in_err-sets_fault.result c.from_residual-in_err-sets_fault.ensures.1 in
    rw (e.1, e.2) (chosen_sets _ _ _ h.work _ _ _ h.outs h.sets true _ (sym c.in_ok-actions_fault.was ∙ c.actions_fault.ensures) (sym c.in_err-sets_fault.was ∙ c.sets_fault.ensures))

pub returns : goal.returns
returns c =
    let h = c.requires in
    chosen_fires _ _ _ h.work _ _ _ h.outs h.sets true (sym c.in_ok-actions_fault.was ∙ c.actions_fault.ensures) (sym c.in_ok-sets_fault.was ∙ c.sets_fault.ensures)
