use mathlib.Core.Path.{sym, ap, ◌∙◌}
use native.Mathlib.Omega.{arith}
use Rattle.std.proofs.lemmas.Result.{err_from_is_err_and}
use lib.IntN.{ℤ}
use Rattle.model.specs.Values.{gives}
use Rattle.values.proofs.Machine.{back}
use Rattle.rules.proofs.Ends.{part_is}
use Rattle.typing.proofs.Scoping.{exp_there}
use Rattle.actions.proofs.Acting.{outcome_of, part_limits, part_typed, part_value}
use Rattle.actions.proofs.value.Goals as goal

pub slice_bounds-value_of-count : goal.slice_bounds-value_of-count
slice_bounds-value_of-count c = omega (arith, exp_there c.args.b.now c.args.at c.requires.b_value)

pub slice_bounds-value_of-start : goal.slice_bounds-value_of-start
slice_bounds-value_of-start c = omega (arith, exp_there c.args.b.now c.args.at c.requires.b_value)

pub value_of-requires : goal.value_of-requires
value_of-requires c =
    let d = part_is c.args.b.now c.args.at in
    record { s_value = part_limits c.args.b.now _ c.args.at d c.requires.b_value; s_value_2 = part_typed c.args.b.now _ c.args.at d c.requires.b_value _ c.requires.b_value_2 }

pub returns-in_err-v : goal.returns-in_err-v
unfolding outcome_of
returns-in_err-v c =
    let e = err_from_is_err_and c.from_residual.result c.from_residual.ensures.1 in
    rw (e.1, e.2) (part_value c.args.b.now _ c.args.at (part_is c.args.b.now c.args.at) c.requires.b_value _ (sym c.in_err-v.was ∙ c.value_of.ensures))

pub returns : goal.returns
unfolding outcome_of
returns c =
    ap (λ (z : ℤ). gives c.in_ok-v.v.ty z) (back (omega arith))
    ∙ part_value c.args.b.now _ c.args.at (part_is c.args.b.now c.args.at) c.requires.b_value _ (sym c.in_ok-v.was ∙ c.value_of.ensures)
