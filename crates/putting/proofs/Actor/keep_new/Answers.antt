use mathlib.Core.Path.{refl}
use mathlib.Core.Bool.{true}
use Prim.Native.Nat.{◌-◌}
use native.Mathlib.Omega.{arith}
use Rattle.actions.proofs.Acting.{ready_there, ready_first}
use Rattle.putting.specs.Actors.{scope_by}
use Rattle.putting.proofs.Sent.{workable}
use Rattle.putting.proofs.Kept.{kept_start, kept_can, kept_next, kept_last}
use Rattle.putting.proofs.Actor.keep_new.Goals as goal

pub loop-var-init : goal.loop-var-init
loop-var-init c = let q = c.requires in kept_start _ _ _ _ _ _ q.standing _ q.k_lt_boxes _ _ _ _ _ q.keeps q.ready

pub skip_action-at-requires : goal.skip_action-at-requires
skip_action-at-requires c =
    let a = c.args in
    let i = c.loop-var in
    ready_there (scope_by a.self.now) true a.self.now.body.now (a.vars - i.var) i.at (omega arith) i.invariant.ready

pub keep_one-requires : goal.keep_one-requires
keep_one-requires c =
    let a = c.args in
    let i = c.loop-var in
    let f = ready_first (scope_by a.self.now) true a.self.now.body.now (a.vars - i.var) i.at (omega arith) i.invariant.ready _ refl in
    let q = c.requires in
    let t = c.loop-var-test.true in
    let can = kept_can _ _ _ _ _ _ q.standing _ q.k_lt_boxes _ _ _ _ _ q.keeps q.vars_bound.1 _ _ _ _ t f i.invariant in
    record { standing = i.invariant.left.became.stands; j_bound = omega (arith, t, q.vars_bound.0); workable = workable f; can_keep = can }

pub loop-var-preserved : goal.loop-var-preserved
loop-var-preserved c =
    let a = c.args in
    let i = c.loop-var in
    let f = ready_first (scope_by a.self.now) true a.self.now.body.now (a.vars - i.var) i.at (omega arith) i.invariant.ready _ c.skip_action-at.ensures in
    let q = c.requires in
    kept_next _ _ _ _ _ _ q.standing _ q.k_lt_boxes _ _ _ _ _ q.keeps q.vars_bound.1 _ _ _ _ c.loop-var-test.true f i.invariant _ c.keep_one.ensures

pub shape_of-state : goal.shape_of-state
shape_of-state c = c.loop-var.invariant.left.became.long

pub returns : goal.returns
returns c =
    let q = c.requires in
    kept_last _ _ _ _ _ _ q.standing _ q.k_lt_boxes _ _ _ _ _ q.keeps q.vars_bound.1 _ _ _ c.loop-var-test.false (omega arith) c.loop-var.invariant
