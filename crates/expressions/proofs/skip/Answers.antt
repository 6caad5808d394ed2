use mathlib.Core.Path.{◌≡◌, sym, ◌∙◌}
use mathlib.Core.List.{List}
use Prim.Native.Nat.{ℕ, ◌+◌, ◌-◌, ◌≤◌, ◌<◌}
use native.Mathlib.Omega.{arith}
use lib.ListN.{get_or, length, drop}
use Rattle.model.specs.Expressions.{head_size, operands, expression}
use Rattle.std.specs.Prelude.{Some}
use Rattle.expressions.specs.Reading.{skip_to}
use Rattle.expressions.proofs.Reading.{ends, ends_whole, turn, done, goes_on, skip_is, head_pos}
use Rattle.expressions.proofs.Heads.{head_at, fits_whole}
use Rattle.expressions.proofs.skip.Goals as goal

-- where p expressions end at e, the first has a head of n bytes
module _ (s : List ℕ) (p at : ℕ) {e c n : ℕ} (l : 0 < p) (h : ends p at s ≡ Some e) (is : c ≡ get_or s at 0) (size : n ≡ head_size c) where
  whole : (at + n ≤ length s) × (1 ≤ n)
  whole = (rw size (fits_whole s at c is (goes_on s p at e l h)), rw size (head_pos c))

  -- and what is left ends there too
  left_is : {m : ℕ} → m ≡ operands c → ends (p - 1 + m) (at + n) s ≡ Some e
  left_is k = rw (k, size) (sym (turn s p at c l (goes_on s p at e l h) (head_at at s ∙ sym is)) ∙ h)

pub loop-left-init : goal.loop-left-init
loop-left-init c =
    let a = c.args in
    (omega arith, ends_whole a.s.now a.from ∙ skip_is a.from (expression (drop a.from a.s.now)) c.requires)

pub overflow_add-left : goal.overflow_add-left
overflow_add-left c =
    let i = c.loop-left in
    let w = whole c.args.s.now i.left i.at c.loop-left-test.true i.invariant.1 c.byte_at-c.ensures c.head_size-at.ensures.0 in
    record { fits = omega (arith, w.0, w.1) }

pub overflow_add-at : goal.overflow_add-at
overflow_add-at c =
    let i = c.loop-left in
    let w = whole c.args.s.now i.left i.at c.loop-left-test.true i.invariant.1 c.byte_at-c.ensures c.head_size-at.ensures.0 in
    record { fits = omega (arith, w.0) }

pub loop-left-smaller : goal.loop-left-smaller
loop-left-smaller c =
    let i = c.loop-left in
    let w = whole c.args.s.now i.left i.at c.loop-left-test.true i.invariant.1 c.byte_at-c.ensures c.head_size-at.ensures.0 in
    omega (arith, w.0, w.1)

pub loop-left-preserved : goal.loop-left-preserved
loop-left-preserved c =
    let i = c.loop-left in
    let s = c.args.s.now in
    let w = whole s i.left i.at c.loop-left-test.true i.invariant.1 c.byte_at-c.ensures c.head_size-at.ensures.0 in
    let e = left_is s i.left i.at c.loop-left-test.true i.invariant.1 c.byte_at-c.ensures c.head_size-at.ensures.0 c.operands.ensures.0 in
    (omega (arith, w.1), e)

pub returns : goal.returns
returns c =
    let i = c.loop-left in
    let e : Some i.at ≡ Some (skip_to _ _) = sym (done c.args.s.now i.left i.at c.loop-left-test.false) ∙ i.invariant.1 in
    cc
