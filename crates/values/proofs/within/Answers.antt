use Prim.Native.Nat.{◌-◌, ◌^◌, ◌≤◌}
use native.Mathlib.Omega.{arith}
use borrow.Author.Tests.{eq-eqb, ne_eqb}
use lib.Pow.{pow_pos}
use mir.Facts.{to_z-of_z}
use Rattle.model.specs.Values.{within, least, greatest}
use Rattle.values.proofs.Machine.{pow_62, least_is, end_is, le_is, lt_is, below_is}
use Rattle.values.proofs.within.Goals as goal

pub returns-then-t-eq1 : goal.returns-then-t-eq1
unfolding within least greatest
returns-then-t-eq1 c =
    let m = 2 ^ (c.args.t.p - 1) in
    let e = c.power-half.ensures in
    let l = pow_pos (c.args.t.p - 1) in
    let h : 2 ^ (c.args.t.p - 1) ≤ 4611686018427387904 = pow_62 (omega arith) in
    rw (c.contains.ensures.value, le_is, lt_is, least_is m l h e, end_is m l h e, to_z-of_z c.ranges.z, below_is c.args.z m l, eq-eqb c.args.t.kind 1 c.if-t-eq1.true)

pub returns-else-t-eq1 : goal.returns-else-t-eq1
unfolding within least greatest
returns-else-t-eq1 c =
    let m = 2 ^ c.args.t.p in
    let l = pow_pos c.args.t.p in
    let end = end_is m l (pow_62 (omega arith)) c.power.ensures in
    rw (c.contains-else-t-eq1.ensures.value, le_is, lt_is, end, to_z-of_z c.ranges.z, below_is c.args.z m l, ne_eqb c.args.t.kind 1 c.if-t-eq1.false)
