use mathlib.Core.Path.{◌≡◌}
use mathlib.Core.Bool.{Bool}
use lib.Dec.{leb}
use Prim.Native.Nat.{ℕ, ◌-◌, ◌^◌, ◌≤◌, ◌<◌}
use native.Mathlib.Omega.{arith}
use borrow.Author.Tests.{eq-eqb, ne_eqb, le-ltb, lt-ltb, leb-true, leb-false}
use lib.IntN.{ℤ, pos, ◌-ℤ◌}
use lib.Signed.{le_z}
use mir.Syntax.{w64}
use mir.Val.{to_z, of_z}
use mir.Facts.{to_z_pos, to_z-of_z}
use Rattle.model.specs.Bytes.{signed_of}
use Rattle.model.specs.Values.{read_back}
use Rattle.values.proofs.Machine.{pow_62, pow_is, less_fits}
use Rattle.values.proofs.read_back.Goals as goal
use Rattle.values.proofs.read_back.Goals.{else-t-eq1-via-then-t-eq1+else-power-x, else-t-eq1-via-else-t-eq1}

-- a pattern n of p bits
module _ {p n : ℕ} (h : p ≤ 62) (l : n < 2 ^ p) where
  n_is : to_z w64 n ≡ pos n
  n_is = to_z_pos w64 (omega (arith, l, pow_62 h))

  -- the test for the upper half
  half_is : {r : ℤ} {t : Bool} → r ≡ pos (2 ^ (p - 1)) → le_z (to_z w64 (of_z w64 r)) (to_z w64 n) ≡ t → leb (2 ^ (p - 1)) n ≡ t
  half_is e t = rw (n_is, pow_is (p - 1) (omega arith) e) at t

  -- n - 2^p
  less_is : {r : ℤ} → r ≡ pos (2 ^ p) → to_z w64 (of_z w64 (to_z w64 n -ℤ to_z w64 (of_z w64 r))) ≡ pos n -ℤ pos (2 ^ p)
  less_is e = rw (n_is, pow_is p h e) (to_z-of_z (less_fits n (2 ^ p) l (pow_62 h)))

pub returns-then-power-x : goal.returns-then-power-x
unfolding read_back signed_of
returns-then-power-x c =
    let h = c.requires.p_bound in
    let l = c.requires.n_bound in
    let upper = leb-true _ _ (half_is h l c.power.ensures c.if-power-x.true) in
    rw (less_is h l c.power-then-power-x.ensures, eq-eqb c.args.t.kind 1 c.if-t-eq1.true, le-ltb c.args.n (2 ^ (c.args.t.p - 1)) upper)

pub returns-else-t-eq1 : goal.returns-else-t-eq1
unfolding read_back signed_of
returns-else-t-eq1 c =
    let h = c.requires.p_bound in
    let l = c.requires.n_bound in
    elim c.else-t-eq1.branch [
      | else-t-eq1-via-then-t-eq1+else-power-x w ↦
          (let lower = leb-false _ _ (half_is h l w.power.ensures w.if-power-x.false) in
          rw (n_is h l, eq-eqb c.args.t.kind 1 w.if-t-eq1.true, lt-ltb c.args.n (2 ^ (c.args.t.p - 1)) lower))
      | else-t-eq1-via-else-t-eq1 w ↦ rw (n_is h l, ne_eqb c.args.t.kind 1 w.if-t-eq1.false)
    ]
