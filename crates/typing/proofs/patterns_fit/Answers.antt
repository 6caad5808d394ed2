use mathlib.Core.Path.{refl, sym, ap, ◌∙◌}
use mathlib.Core.Bool.{false}
use Prim.Native.Nat.{◌-◌, ◌<◌}
use native.Mathlib.Omega.{arith}
use Rattle.expressions.specs.Reading.{is_read}
use Rattle.rules.specs.Bodies.{patterns_from}
use Rattle.typing.specs.Fits.{fitting_of}
use Rattle.typing.proofs.Patterns.{pattern_first, pattern_within, pattern_next, fit_start, fit_fail, fit_more, fit_end, read_step, precise_at, minus_zero}
use Rattle.typing.proofs.patterns_fit.Goals as goal

pub loop-k-init : goal.loop-k-init
loop-k-init c =
    let a = c.args in
    record {
      there = ap (λ j. is_read (patterns_from false j a.from a.b.now)) (minus_zero a.n) ∙ c.requires.b_value;
      left = fit_start false a.b.now a.types.now a.n a.from;
    }

pub pattern_fits-requires : goal.pattern_fits-requires
pattern_fits-requires c =
    let a = c.args in
    let i = c.loop-k in
    record { at_in_bounds = pattern_within false a.b.now (a.n - i.k) i.at (omega arith) i.invariant.there; le_p = precise_at a.types.now a.n i.k _ c.requires.precise (omega arith) c.entry.ensures }

pub returns-then-not-pattern_fits : goal.returns-then-not-pattern_fits
returns-then-not-pattern_fits c =
    let a = c.args in
    let i = c.loop-k in
    let m : i.k < a.n = omega arith in
    let e = pattern_next false a.b.now (a.n - i.k) i.at (omega arith) i.invariant.there _ refl in
    fit_fail false a.b.now a.types.now a.n i.k i.at _ _ _ m i.invariant.there e c.entry.ensures c.pattern_fits.ensures c.if-not-pattern_fits.true i.invariant.left

pub skip_pattern-at-requires : goal.skip_pattern-at-requires
skip_pattern-at-requires c =
    let i = c.loop-k in
    pattern_first false c.args.b.now (c.args.n - i.k) i.at (omega arith) i.invariant.there

pub loop-k-preserved : goal.loop-k-preserved
loop-k-preserved c =
    let a = c.args in
    let i = c.loop-k in
    let m : i.k < a.n = omega arith in
    let e = pattern_next false a.b.now (a.n - i.k) i.at (omega arith) i.invariant.there _ c.skip_pattern-at.ensures in
    record {
      there = read_step false a.b.now a.types.now a.n i.k i.at _ m i.invariant.there e;
      left = fit_more false a.b.now a.types.now a.n i.k i.at _ _ _ m i.invariant.there e c.entry.ensures c.pattern_fits.ensures c.if-not-pattern_fits.false i.invariant.left;
    }

pub returns : goal.returns
unfolding fitting_of
returns c =
    let a = c.args in
    let i = c.loop-k in
    ap fitting_of (sym (fit_end false a.b.now a.types.now a.n i.k i.at (omega arith)) ∙ i.invariant.left)
