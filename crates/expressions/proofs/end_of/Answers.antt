use mathlib.Core.Path.{◌≡◌, sym, ◌∙◌}
use mathlib.Core.Bool.{Bool, true}
use mathlib.Core.List.{List}
use Prim.Native.Nat.{ℕ, ◌+◌, ◌-◌, ◌≤◌, ◌<◌}
use native.Mathlib.Omega.{arith}
use lib.ListN.{get_or, length, drop}
use Rattle.model.specs.Expressions.{head_fits, head_size, operands}
use Rattle.expressions.proofs.Reading.{ends, ends_whole, turn, halt, done, head_pos}
use Rattle.expressions.proofs.Heads.{head_at, fits_whole}
use Rattle.expressions.proofs.end_of.Goals as goal

-- a head that fits, of n bytes
module _ (s : List ℕ) (at : ℕ) {b : Bool} {c n : ℕ} (is : c ≡ get_or s at 0) (size : n ≡ head_size c) (x : b ≡ head_fits (drop at s)) (y : b ≡ true) where
  whole : (at + n ≤ length s) × (1 ≤ n)
  whole = (rw size (fits_whole s at c is (sym x ∙ y)), rw size (head_pos c))

  -- the expressions that are left after it
  left_is : (p : ℕ) {m : ℕ} → 0 < p → m ≡ operands c → ends (p - 1 + m) (at + n) s ≡ ends p at s
  left_is p l k = rw (k, size) (sym (turn s p at c l (sym x ∙ y) (head_at at s ∙ sym is)))

pub loop-pending-init : goal.loop-pending-init
loop-pending-init c = (omega arith, (omega arith, ends_whole c.args.s.now c.args.from))

pub returns-then-not-head_fits : goal.returns-then-not-head_fits
returns-then-not-head_fits c =
    let i = c.loop-pending in
    sym (halt c.args.s.now i.pending i.at c.loop-pending-test.true (sym c.head_fits.ensures ∙ c.if-not-head_fits.true)) ∙ i.invariant.1.1

pub overflow_add-pending : goal.overflow_add-pending
overflow_add-pending c =
    let w = whole c.args.s.now c.loop-pending.at c.byte_at-c.ensures c.head_size-at.ensures.0 c.head_fits.ensures c.if-not-head_fits.false in
    record { fits = omega (arith, w.0, w.1) }

pub loop-pending-smaller : goal.loop-pending-smaller
loop-pending-smaller c =
    let w = whole c.args.s.now c.loop-pending.at c.byte_at-c.ensures c.head_size-at.ensures.0 c.head_fits.ensures c.if-not-head_fits.false in
    omega (arith, w.0, w.1)

pub loop-pending-preserved : goal.loop-pending-preserved
loop-pending-preserved c =
    let i = c.loop-pending in
    let w = whole c.args.s.now c.loop-pending.at c.byte_at-c.ensures c.head_size-at.ensures.0 c.head_fits.ensures c.if-not-head_fits.false in
    let e = left_is c.args.s.now c.loop-pending.at c.byte_at-c.ensures c.head_size-at.ensures.0 c.head_fits.ensures c.if-not-head_fits.false i.pending in
    (w.0, (omega (arith, w.1), e c.loop-pending-test.true c.operands.ensures.0 ∙ i.invariant.1.1))

pub returns : goal.returns
returns c = let i = c.loop-pending in sym (done c.args.s.now i.pending i.at c.loop-pending-test.false) ∙ i.invariant.1.1
