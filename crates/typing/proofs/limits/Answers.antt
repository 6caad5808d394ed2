use mathlib.Core.Path.{sym, ◌∙◌}
use native.Mathlib.Omega.{arith}
use Rattle.std.proofs.lemmas.Result.{err_from_is_err_and}
use Rattle.typing.proofs.Keeping.{outs_read, sets_there, many_rules, long_body, guard_over, sent_over, sets_left}
use Rattle.typing.proofs.limits.Goals as goal

pub returns-then-seen-ge16 : goal.returns-then-seen-ge16
returns-then-seen-ge16 c = many_rules _ _ _ c.requires _ (omega arith)

pub returns-then-b-gt512 : goal.returns-then-b-gt512
returns-then-b-gt512 c = long_body _ _ _ c.requires _ (omega arith) (omega arith)

pub returns-then-not-expression_limits : goal.returns-then-not-expression_limits
returns-then-not-expression_limits c = guard_over _ _ _ c.requires _ (omega arith) (omega arith) (sym c.expression_limits.ensures ∙ c.if-not-expression_limits.true)

pub actions_keep-requires : goal.actions_keep-requires
actions_keep-requires c = outs_read _ _ _ c.requires c.args.seen

pub returns-in_err-actions_keep : goal.returns-in_err-actions_keep
returns-in_err-actions_keep c =
    let p = err_from_is_err_and c.from_residual.result c.from_residual.ensures.1 in
    let g = sym c.expression_limits.ensures ∙ c.if-not-expression_limits.false in
    rw (p.1, p.2) (sent_over _ _ _ c.requires _ (omega arith) (omega arith) g _ (sym c.in_err-actions_keep.was ∙ c.actions_keep.ensures))

pub actions_keep-requires-2 : goal.actions_keep-requires-2
actions_keep-requires-2 c = sets_there _ _ _ c.requires c.args.seen

pub returns : goal.returns
returns c =
    c.actions_keep-2.ensures
    ∙ sets_left _ _ _ c.requires _ (omega arith) (omega arith) (sym c.expression_limits.ensures ∙ c.if-not-expression_limits.false) (sym c.in_ok-actions_keep.was ∙ c.actions_keep.ensures)
