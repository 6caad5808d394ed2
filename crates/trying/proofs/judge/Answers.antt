use mathlib.Core.Path.{◌≡◌, sym, ap, ◌∙◌}
use mathlib.Core.List.{List}
use Prim.Native.Nat.{ℕ}
use native.Mathlib.Omega.{arith}
use Rattle.std.proofs.lemmas.Result.{err_from_is_err_and}
use lib.ListN.{drop}
use Rattle.values.proofs.Machine.{back}
use Rattle.model.specs.Values.{is_true}
use Rattle.expressions.specs.Reading.{skip_to}
use Rattle.model.specs.Expressions.{expression}
use Rattle.model.specs.Rules.{rule_read, read_rule}
use Rattle.evaluation.specs.Named.{named_by}
use Rattle.shapes.specs.declared.Arity.{Arity}
use Rattle.trying.specs.Working.{AtGuard}
use Rattle.trying.proofs.Offsets.{guard_there, guard_end, outs_there}
use Rattle.trying.proofs.Judging.{guard_ready, judge_shut, Opened, opened, judge_fault, judge_false, judge_true}
use Rattle.trying.proofs.judge.Goals as goal
use Rattle.trying.proofs.judge.Goals.{In-Some}

-- the output actions begin where the guard ends
outs_begin : {a : Arity} {b types : List ℕ} {at e : ℕ} (h : AtGuard a b at types) → e ≡ skip_to at (expression (drop at b)) → e ≡ h.work.parts.outs
outs_begin h q = q ∙ guard_end _ _ _ h.work.laid _ h.guard

pub skip-outs-requires : goal.skip-outs-requires
skip-outs-requires c = let h = c.requires in guard_there _ _ _ h.work.laid _ h.guard

pub outs_open-requires : goal.outs_open-requires
outs_open-requires c = outs_there _ _ _ c.requires.work.laid _ (outs_begin c.requires c.skip-outs.ensures)

pub returns-in_default : goal.returns-in_default
returns-in_default c =
    let h = c.requires in
    judge_shut _ _ _ h.work _ _ _ h.guard _ (outs_begin c.requires c.skip-outs.ensures) (sym c.in_default.is ∙ c.outs_open.ensures)

pub value-requires : goal.value-requires
value-requires c =
    let h = c.requires in
    let r = guard_ready _ _ _ h.work _ h.guard in
    record { b_value = r.0; b_value_2 = r.1 }

-- every output that is written is open
open_there : (c : In-Some) → Opened (named_by c.args.env.now) c.args.full.now (rule_read (read_rule c.args.a.ins c.args.a.outs c.args.a.vars c.args.b.now)) c.requires.work.parts.sets c.in-Some.sets
open_there c = opened _ _ _ c.requires.work _ _ _ c.requires.guard _ _ (outs_begin c.requires c.skip-outs.ensures) (sym c.in-Some.is ∙ c.outs_open.ensures)

pub returns-in_err-guard : goal.returns-in_err-guard
returns-in_err-guard c =
    let o = open_there (goal.at.returns-in_err-guard c).In-Some in
    let e = err_from_is_err_and c.from_residual.result c.from_residual.ensures.1 in
    rw (e.1, e.2) (judge_fault _ _ _ c.requires.work _ _ _ c.requires.guard _ o _ (sym c.in_err-guard.was ∙ c.value.ensures))

pub returns-then-not-is_true : goal.returns-then-not-is_true
returns-then-not-is_true c =
    let t = ap is_true (sym (back {z = c.in_ok-guard.guard.value} (omega arith))) ∙ sym c.is_true.ensures ∙ c.if-not-is_true.true in
    judge_false _ _ _ c.requires.work _ _ _ c.requires.guard _ (open_there (goal.at.returns-then-not-is_true c).In-Some) _ (sym c.in_ok-guard.was ∙ c.value.ensures) t

pub chosen-requires : goal.chosen-requires
chosen-requires c = record { work = c.requires.work; outs = outs_begin c.requires c.skip-outs.ensures; sets = (open_there (goal.at.chosen-requires c).In-Some).sets }

pub returns : goal.returns
returns c =
    let t = ap is_true (sym (back {z = c.in_ok-guard.guard.value} (omega arith))) ∙ sym c.is_true.ensures ∙ c.if-not-is_true.false in
    judge_true _ _ _ c.requires.work _ _ _ c.requires.guard _ (open_there (goal.at.returns c).In-Some) _ (sym c.in_ok-guard.was ∙ c.value.ensures) t c.chosen.ensures
