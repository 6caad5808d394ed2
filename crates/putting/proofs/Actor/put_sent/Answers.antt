use mathlib.Core.Path.{refl}
use mathlib.Core.Bool.{false}
use Prim.Native.Nat.{◌-◌}
use native.Mathlib.Omega.{arith}
use Rattle.actions.proofs.Acting.{ready_there, ready_first}
use Rattle.putting.specs.Actors.{scope_by}
use Rattle.putting.proofs.Sent.{sent_start, sent_places, sent_next, sent_last, workable}
use Rattle.putting.proofs.Actor.put_sent.Goals as goal

pub loop-out-init : goal.loop-out-init
loop-out-init c = let q = c.requires in sent_start _ _ _ _ _ _ _ _ _ _ _ _ q.standing q.ready q.places

pub skip_action-at-requires : goal.skip_action-at-requires
skip_action-at-requires c =
    let a = c.args in
    let i = c.loop-out in
    ready_there (scope_by a.self.now) false a.self.now.body.now (a.outs - i.out) i.at (omega arith) i.invariant.ready

pub put_one-requires : goal.put_one-requires
put_one-requires c =
    let a = c.args in
    let i = c.loop-out in
    let f = ready_first (scope_by a.self.now) false a.self.now.body.now (a.outs - i.out) i.at (omega arith) i.invariant.ready _ refl in
    let t = c.loop-out-test.true in
    let q = sent_places _ _ _ _ _ _ _ _ _ _ _ _ c.requires.outs_value _ _ _ _ t f i.invariant in
    record { standing = i.invariant.left.became.stands; k_lt_boxes = c.requires.k_lt_boxes; j_in_bounds = omega (arith, c.requires.outs_value, t); workable = workable f; places = q }

pub loop-out-preserved : goal.loop-out-preserved
loop-out-preserved c =
    let a = c.args in
    let i = c.loop-out in
    let f = ready_first (scope_by a.self.now) false a.self.now.body.now (a.outs - i.out) i.at (omega arith) i.invariant.ready _ c.skip_action-at.ensures in
    sent_next _ _ _ _ _ _ _ _ _ _ _ _ c.requires.outs_value _ _ _ _ c.loop-out-test.true f i.invariant _ c.put_one.ensures

pub shape_of-state : goal.shape_of-state
shape_of-state c = c.loop-out.invariant.left.became.long

pub returns : goal.returns
returns c = sent_last _ _ _ _ _ _ _ _ _ _ _ _ c.requires.outs_value _ _ _ c.loop-out-test.false c.loop-out.invariant
