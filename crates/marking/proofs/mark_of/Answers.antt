use mathlib.Core.Path.{sym, ap, ◌∙◌}
use native.Mathlib.Omega.{arith}
use Rattle.model.specs.Cycles.{flag}
use Rattle.trying.specs.Views.{mark_as}
use Rattle.ends.proofs.Ends.{ends_fires}
use Rattle.marking.proofs.mark_of.Goals as goal

pub returns-then-j-c-2 : goal.returns-then-j-c-2
returns-then-j-c-2 c =
    c.end_mark.ensures ∙ ap (λ x. mark_as (flag x)) c.input_marked.ensures ∙ ap mark_as (sym (ends_fires _ _ _ _ _ _ c.requires.standing _ (omega arith) c.requires.k_bound))

pub returns : goal.returns
returns c =
    c.end_mark-2.ensures ∙ ap (λ x. mark_as (flag x)) c.output_marked.ensures ∙ ap mark_as (sym (ends_fires _ _ _ _ _ _ c.requires.standing _ (omega arith) c.requires.k_bound))
