use mathlib.Core.Path.{◌≡◌, refl, sym, ap, ◌∙◌}
use mathlib.Core.Bool.{false}
use Prim.Native.Nat.{◌+◌, ◌-◌}
use native.Mathlib.Omega.{arith}
use Rattle.typing.proofs.Actions.{action_first}
use Rattle.matching.proofs.Laws.{left, rest_there, left_none, left_shut, left_more}
use Rattle.matching.proofs.outs_open.Goals as goal

pub returns-then-c-f : goal.returns-then-c-f
returns-then-c-f c =
    let i = c.loop-k in
    left_shut _ _ (c.args.n - i.k) i.at (omega arith) i.invariant.there _ refl _ _ _ c.byte_at-c.ensures c.byte_at-f.ensures c.if-c-f.true ∙ i.invariant.left

pub skip_action-at-requires : goal.skip_action-at-requires
skip_action-at-requires c =
    let i = c.loop-k in
    action_first false c.args.b.now (c.args.n - i.k) i.at (omega arith) i.invariant.there

pub loop-k-preserved : goal.loop-k-preserved
loop-k-preserved c =
    let a = c.args in
    let i = c.loop-k in
    let q : a.n - i.k - 1 ≡ a.n - (i.k + 1) = omega arith in
    let r = rest_there a.full.now a.b.now (a.n - i.k) i.at (omega arith) i.invariant.there _ c.skip_action-at.ensures in
    let m = left_more _ _ (a.n - i.k) i.at (omega arith) i.invariant.there _ c.skip_action-at.ensures i.k _ _ c.byte_at-c.ensures c.byte_at-f.ensures c.if-c-f.false in
    record { there = rw q at r; left = ap (left _ _ _ _) (sym q) ∙ sym m ∙ i.invariant.left }

pub returns : goal.returns
returns c =
    let i = c.loop-k in
    sym (left_none _ _ i.k i.at) ∙ ap (left _ _ _ _) (omega arith) ∙ i.invariant.left
