use mathlib.Core.Path.{sym, ap, ◌∙◌}
use mathlib.Core.Bool.{false}
use Prim.Native.Nat.{◌<◌, ◌-◌}
use native.Mathlib.Omega.{arith}
use Rattle.model.specs.Values.{no_type}
use Rattle.expressions.specs.Reading.{is_read}
use Rattle.rules.specs.Bodies.{patterns_from}
use Rattle.typing.proofs.Patterns.{pattern_first, pattern_next, matched_start, matched_step, matched_yes, matched_no, matched_none, read_step, minus_zero}
use Rattle.typing.proofs.matched_type.Goals as goal

pub returns-then-n-k : goal.returns-then-n-k
unfolding no_type
returns-then-n-k c = sym (matched_none _ _ _ _ c.if-n-k.true)

pub loop-init : goal.loop-init
loop-init c =
    let a = c.args in
    record {
      there = ap (λ j. is_read (patterns_from false j 0 a.b.now)) (minus_zero a.n) ∙ c.requires.b_value;
      left = matched_start a.b.now a.ins.now a.n a.k;
    }

pub skip_pattern-at-requires : goal.skip_pattern-at-requires
skip_pattern-at-requires c =
    let i = c.loop in
    pattern_first false c.args.b.now (c.args.n - i.counter) i.at (omega arith) i.invariant.there

pub loop-preserved : goal.loop-preserved
loop-preserved c =
    let a = c.args in
    let i = c.loop in
    let m : i.counter < a.n = omega arith in
    let e = pattern_next false a.b.now (a.n - i.counter) i.at (omega arith) i.invariant.there _ c.skip_pattern-at.ensures in
    record {
      there = read_step false a.b.now a.ins.now a.n i.counter i.at _ m i.invariant.there e;
      left = sym (matched_step a.b.now a.ins.now a.n i.counter a.k i.at _ m (omega arith) i.invariant.there e) ∙ i.invariant.left;
    }

pub returns-then-c : goal.returns-then-c
returns-then-c c =
    let a = c.args in
    let i = c.loop in
    matched_yes a.b.now a.ins.now a.n i.counter a.k i.at _ _ _ (omega arith) (omega arith, omega arith) i.invariant.there c.byte_at-c.ensures c.entry.ensures c.carried.ensures c.if-c.true ∙ i.invariant.left

pub returns : goal.returns
unfolding no_type
returns c =
    let a = c.args in
    let i = c.loop in
    matched_no a.b.now a.ins.now a.n i.counter a.k i.at _ (omega arith) (omega arith, omega arith) i.invariant.there c.byte_at-c.ensures c.if-c.false ∙ i.invariant.left
