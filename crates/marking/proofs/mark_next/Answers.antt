use mathlib.Core.Path.{sym, ap, ◌∙◌}
use Rattle.std.specs.Prelude.{Ok}
use Rattle.std.proofs.lemmas.Result.{err_from_is_err_and}
use Rattle.marking.proofs.Noting.{step_quiet, step_faulty, step_fires}
use Rattle.marking.proofs.mark_next.Goals as goal

pub returns-in_err-rule : goal.returns-in_err-rule
returns-in_err-rule c =
    let e = err_from_is_err_and c.from_residual.result c.from_residual.ensures.1 in
    let n = step_faulty _ _ _ _ _ _ (sym c.in_err-rule.was ∙ c.mark_of.ensures) in
    record { marked = rw (e.1, e.2) n.0; numbers = n.1 }

pub returns-in_default : goal.returns-in_default
returns-in_default c =
    let n = step_quiet _ _ _ _ _ (ap Ok (sym c.in_default.is) ∙ sym c.in_ok-rule.was ∙ c.mark_of.ensures) in
    record { marked = n.0; numbers = n.1 }

pub returns : goal.returns
returns c =
    let n = step_fires _ _ _ _ _ _ (ap Ok (sym c.in-Some.is) ∙ sym c.in_ok-rule.was ∙ c.mark_of.ensures) c.noted.ensures.0 c.noted.ensures.1 in
    record { marked = n.0; numbers = n.1 }
