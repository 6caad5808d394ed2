use Rattle.std.proofs.Common.{◌≡◌, ◌+◌, ◌-◌, get_or, drop, refl, sym, ◌∙◌, arith}
use Rattle.std.proofs.Math.Nat.{sub-zero}
use Rattle.model.specs.Expressions.{expression}
use Rattle.expressions.proofs.Reading.{head_pos}
use Rattle.expressions.proofs.Heads.{head_at, fits_whole}
use Rattle.expressions.proofs.Depths.{no_depth, limits_none, limits_imprecise, limits_start, walk-bad, walk_good, walk_done, limits_within}
use Rattle.expressions.proofs.+limits_at.Goals as goal

pub returns-then-depth-eq0 : goal.returns-then-depth-eq0
returns-then-depth-eq0 t c = rw c.if-depth-eq0.true (sym (no_depth c.args.at (expression (drop c.args.at c.args.s.now))))

pub returns-then-not-head_fits : goal.returns-then-not-head_fits
returns-then-not-head_fits t c = sym (limits_none c.args.s.now c.args.at c.args.depth (sym c.head_fits.ensures ∙ c.if-not-head_fits.true))

pub precise_head-requires : goal.precise_head-requires
precise_head-requires t c =
    let h = get_or c.args.s.now c.args.at 0 in
    omega (arith, fits_whole c.args.s.now c.args.at h refl (sym c.head_fits.ensures ∙ c.if-not-head_fits.false), head_pos h)

pub returns-then-not-precise_head : goal.returns-then-not-precise_head
returns-then-not-precise_head t c =
    let a = c.args in
    let fits = sym c.head_fits.ensures ∙ c.if-not-head_fits.false in
    sym (limits_imprecise a.s.now a.at _ (head_at a.at a.s.now) fits a.depth c.if-depth-eq0.false (sym c.precise_head.ensures ∙ c.if-not-precise_head.true))

-- the head that fits ends within the bytes
pub loop-init : goal.loop-init
loop-init t c =
    let a = c.args in
    let fits = sym c.head_fits.ensures ∙ c.if-not-head_fits.false in
    let start = limits_start a.s.now a.at _ (head_at a.at a.s.now ∙ sym c.byte_at-c.ensures) fits a.depth c.if-depth-eq0.false (sym c.precise_head.ensures ∙ c.if-not-precise_head.false) in
    record {
      inside = rw c.head_size.ensures.0 (fits_whole a.s.now a.at _ c.byte_at-c.ensures fits);
      same = rw (sub-zero, c.operands-end.ensures.0, c.head_size.ensures.0) (sym start);
    }

pub returns-in_err-next : goal.returns-in_err-next
returns-in_err-next t c =
    let i = c.loop in
    let none = walk-bad (c.args.depth - 1) c.args.s.now (c.operands-end.result - i.counter) i.next (omega arith) (sym c.limits_at.ensures ∙ c.in_err-next.was) in
    c.from_residual.ensures ∙ sym none ∙ i.invariant.same

pub loop-preserved : goal.loop-preserved
loop-preserved t c =
    let i = c.loop in
    let d = c.args.depth - 1 in
    let left = c.operands-end.result - i.counter in
    let read = sym c.limits_at.ensures ∙ c.in_ok-next.was in
    let one_less : c.operands-end.result - (i.counter + 1) ≡ left - 1 = omega arith in
    record {
      inside = limits_within d c.args.s.now i.next _ i.invariant.inside read;
      same = rw one_less (sym (walk_good d c.args.s.now left i.next _ (omega arith) read) ∙ i.invariant.same);
    }

pub returns : goal.returns
returns t c = sym (walk_done (c.args.depth - 1) c.args.s.now (c.operands-end.result - c.loop.counter) c.loop.next (omega arith)) ∙ c.loop.invariant.same
