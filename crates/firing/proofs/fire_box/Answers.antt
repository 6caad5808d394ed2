use mathlib.Core.Path.{◌≡◌}
use mathlib.Core.List.{List}
use Prim.Native.Nat.{ℕ, ◌+◌}
use native.Mathlib.Omega.{arith}
use Rattle.model.specs.Bytes.{stretch, two_at}
use Rattle.model.specs.NetworkFile.{body_at}
use Rattle.typing.proofs.Wholes.{ins_read}
use Rattle.marking.proofs.Boxes.{box_ready}
use Rattle.firing.proofs.Deeds.{ready, whole_parts, env_fits, works, fired_as}
use Rattle.firing.proofs.fire_box.Goals as goal

body_is : {b : List ℕ} (s : List ℕ) (o : ℕ) → b ≡ stretch s (o + 3) (two_at s (o + 1)) → b ≡ body_at s o
unfolding body_at
body_is s o e = e

pub box_at-at-requires : goal.box_at-at-requires
box_at-at-requires c = c.requires.box_ready.known

pub shape_of-a-requires : goal.shape_of-a-requires
shape_of-a-requires c =
    let q = c.requires in
    let h = q.standing.tabled in
    record { wires_in_bounds = omega (arith, h.within.wires, h.long); box_fits = box_ready _ _ _ h _ q.box_ready.known _ c.box_at-at.ensures.0; in_bounds = (omega arith, omega arith, omega arith) }

pub rule_body-body-requires : goal.rule_body-body-requires
rule_body-body-requires c = record { b_lt_boxes = c.requires.box_ready.known; r_in_bounds = c.requires.box_ready.there }

pub actions_at-from-requires : goal.actions_at-from-requires
actions_at-from-requires c =
    let e = body_is _ _ c.rule_body-body.ensures.bytes in
    let q = c.requires in
    let w = ready _ _ _ _ _ _ q.standing _ q.box_ready.known _ c.box_at-at.ensures.0 _ _ _ _ c.shape_of-a.ensures _ q.box_ready.there _ e in
    let p = whole_parts _ _ _ _ _ _ q.standing _ q.box_ready.known _ c.box_at-at.ensures.0 _ _ _ _ c.shape_of-a.ensures _ q.box_ready.there _ e in
    record { ins_bound = (w.few_ins, w.few_vars); parted = p }

pub scope-types-requires : goal.scope-types-requires
scope-types-requires c =
    let e = body_is _ _ c.rule_body-body.ensures.bytes in
    let q = c.requires in
    let w = ready _ _ _ _ _ _ q.standing _ q.box_ready.known _ c.box_at-at.ensures.0 _ _ _ _ c.shape_of-a.ensures _ q.box_ready.there _ e in
    record { ins_bound = (w.few_ins, w.few_vars); b_value = ins_read _ _ _ w.laid }

pub values-vals-requires : goal.values-vals-requires
values-vals-requires c = record { standing = c.requires.standing; k_lt_boxes = c.requires.box_ready.known }

pub invariant_of-env : goal.invariant_of-env
invariant_of-env c =
    let e = body_is _ _ c.rule_body-body.ensures.bytes in
    let q = c.requires in
    let fits = env_fits _ _ _ _ _ _ q.standing _ q.box_ready.known _ c.box_at-at.ensures.0 _ _ _ _ c.shape_of-a.ensures _ q.box_ready.there _ e
    _ c.actions_at-from.ensures _ c.values-vals.ensures _ c.scope-types.ensures in
    record { fits = fits }

pub apply-requires : goal.apply-requires
apply-requires c =
    let e = body_is _ _ c.rule_body-body.ensures.bytes in
    let q = c.requires in
    let w = works _ _ _ _ _ _ q.standing _ q.box_ready.known _ c.box_at-at.ensures.0 _ _ _ _ c.shape_of-a.ensures _ q.box_ready.there _ e
    _ c.actions_at-from.ensures _ c.values-vals.ensures _ c.scope-types.ensures q.box_ready.sound in
    record { standing = q.standing; can_act = w }

pub returns : goal.returns
returns c =
    let e = body_is _ _ c.rule_body-body.ensures.bytes in
    let q = c.requires in
    fired_as _ _ _ _ _ _ q.standing _ q.box_ready.known _ c.box_at-at.ensures.0 _ _ _ _ c.shape_of-a.ensures _ q.box_ready.there _ e
    _ c.actions_at-from.ensures _ c.values-vals.ensures _ c.scope-types.ensures _ c.apply.ensures
