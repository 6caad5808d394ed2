use mathlib.Core.Path.{sym, ap, ◌∙◌}
use Rattle.model.specs.Calls.{marks_of, refusal}
use Rattle.model.specs.Reasons.{reason_number}
use Rattle.marking.specs.Noted.{marking_of}
use Rattle.marking.proofs.Noting.{so_far_first, so_far_go, so_far_broken, so_far_end}
use Rattle.marking.proofs.Processes.{kinds, all_procs}
use Rattle.marking.proofs.mark_all.Goals as goal

pub loop-k-init : goal.loop-k-init
loop-k-init c = so_far_first _ _ _ _ (all_procs _ _ _ _ c.requires.standing.tabled) c.requires.rules_value

pub mark_next-requires-clause-set_bound : goal.mark_next-requires-clause-set_bound
mark_next-requires-clause-set_bound c = (c.loop-k.invariant.small, c.loop-k.invariant.many)

pub returns-in-Err : goal.returns-in-Err
unfolding marking_of marks_of refusal reason_number
returns-in-Err c =
    let t = c.requires.standing.tabled in
    sym (ap (marks_of _ _) (so_far_broken _ _ _ _ _ _ _ c.loop-k.invariant c.loop-k-test.true t.within.boxes (kinds _ _ _ _ t) _ (sym c.in-Err.is ∙ c.mark_next.ensures.marked)))

pub loop-k-preserved : goal.loop-k-preserved
loop-k-preserved c =
    let t = c.requires.standing.tabled in
    so_far_go _ _ _ _ _ _ _ c.loop-k.invariant c.loop-k-test.true t.within.boxes (kinds _ _ _ _ t) _ _ (sym c.in-Ok.is ∙ c.mark_next.ensures.marked) c.mark_next.ensures.numbers

pub returns : goal.returns
unfolding marking_of
returns c = so_far_end _ _ _ _ _ _ c.loop-k.invariant (all_procs _ _ _ _ c.requires.standing.tabled) c.loop-k-test.false
