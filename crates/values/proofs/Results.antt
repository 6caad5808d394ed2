-- Every result of an operator on a type of precision 1 to 30 is a fault, or a value of such a type within 32 bits.
-- Assumes nothing.
use mathlib.Core.Bool.{Bool, true, false, not, cond}
use Prim.Native.Nat.{ℕ, ◌-◌, ◌/◌, ◌^◌, ◌≤◌, ◌<◌}
use native.Mathlib.Nat.{div-le_self, lt_of_le_of_lt}
use native.Mathlib.Omega.{arith}
use lib.Dec.{leb, eqb, lit≤}
use lib.IntN.{ℤ, pos, ◌+ℤ◌, ◌-ℤ◌, ◌*ℤ◌}
use lib.Signed.{mag, quot_z, rem_z}
use lib.Bits.{bit_and, bit_or, and_lt, or_lt}
use lib.Pow.{ones_sub-lt}
use Rattle.model.specs.declared.Ty.{Ty}
use Rattle.std.specs.Prelude.{Ok, Err}
use Rattle.model.specs.declared.Fault.TheVariants.{ZeroDivisor}
use Rattle.model.specs.Bytes.{mod_z}
use Rattle.model.specs.Values.{bool, pattern, read_back, wrap, truth, eq_z, is_true, Outcome, gives, arithmetic, bitwise, compare, logic, apply, apply_one}
use Rattle.model.proofs.Wrapping.{pow_30, read_mag, wrap_mag, pattern_lt}

-- a type of precision 1 to 30, and a value that 32 bits hold
pub record Small (t : Ty) (z : ℤ) : Type 0 where
  pub low : 1 ≤ t.p
  pub high : t.p ≤ 30
  pub small : mag z ≤ 2 ^ 31

unfoldable pub Sound : Outcome → Type 0  -- of a fault nothing is asked
Sound (Ok v) = Small v.ty v.value
Sound (Err x) = Unit {0}

pub sound_cond : (b : Bool) (x y : Outcome) → Sound x → Sound y → Sound (cond b x y)
sound_cond true x y h k = h
sound_cond false x y h k = k

bool_small : (b : Bool) → Small bool (truth b)
unfolding bool truth
bool_small true = record { low = lit≤ tt; high = lit≤ tt; small = lit≤ tt }
bool_small false = record { low = lit≤ tt; high = lit≤ tt; small = lit≤ tt }

module _ (t : Ty) (l : 1 ≤ t.p) (h : t.p ≤ 30) where
  read_small : (n : ℕ) → n < 2 ^ t.p → Small t (read_back t n)
  read_small n b = record { low = l; high = h; small = omega (arith, read_mag t n b, pow_30 h) }

  pub wrap_small : (z : ℤ) → Small t (wrap t z)
  wrap_small z = record { low = l; high = h; small = omega (arith, wrap_mag t z, pow_30 h) }

  arithmetic_sound : (o : ℕ) (a b : ℤ) → Sound (arithmetic o t a b)
  unfolding Sound arithmetic
  arithmetic_sound o a b =
      sound_cond (eqb o 10) (gives t (wrap t (a +ℤ b))) _ (wrap_small (a +ℤ b))
      (sound_cond (eqb o 11) (gives t (wrap t (a -ℤ b))) _ (wrap_small (a -ℤ b))
      (sound_cond (eqb o 12) (gives t (wrap t (a *ℤ b))) _ (wrap_small (a *ℤ b))
      (sound_cond (eq_z b (pos 0)) (Err ZeroDivisor) _ tt
      (sound_cond (eqb o 13) (gives t (wrap t (quot_z a b))) (gives t (wrap t (rem_z a b))) (wrap_small (quot_z a b)) (wrap_small (rem_z a b))))))

  small_cond : (b : Bool) (x y : ℤ) → Small t x → Small t y → Small t (cond b x y)
  small_cond true x y i j = i
  small_cond false x y i j = j

  bitwise_small : (o : ℕ) (a b : ℤ) → Small t (bitwise o t a b)
  unfolding bitwise
  bitwise_small o a b =
      let x = pattern t a in
      let y = pattern t b in
      let m = and_lt t.p x y (pattern_lt t a) (pattern_lt t b) in
      small_cond (eqb o 15) _ _ (read_small (bit_and x y) m)
      (small_cond (eqb o 16) _ _ (read_small (bit_or x y) (or_lt t.p x y (pattern_lt t a) (pattern_lt t b)))
      (small_cond (eqb o 17) _ _ (read_small (2 ^ t.p - 1 - bit_and x y) (ones_sub-lt t.p (bit_and x y)))
      (small_cond (eqb o 18) _ _ (wrap_small (a *ℤ pos (2 ^ mod_z b 32)))
      (read_small (x / 2 ^ mod_z b 32) (lt_of_le_of_lt (div-le_self x (2 ^ mod_z b 32)) (pattern_lt t a))))))

  pub apply_sound : (o : ℕ) (a b : ℤ) → Sound (apply o t a b)
  unfolding Sound apply
  apply_sound o a b =
      sound_cond (leb o 14) (arithmetic o t a b) _ (arithmetic_sound o a b)
      (sound_cond (leb o 19) (gives t (bitwise o t a b)) _ (bitwise_small o a b)
      (sound_cond (leb o 25) (gives bool (truth (compare o a b))) (gives bool (truth (logic o a b))) (bool_small (compare o a b)) (bool_small (logic o a b))))

  pub apply_one_sound : (o : ℕ) (a : ℤ) → Sound (apply_one o t a)
  unfolding Sound apply_one
  apply_one_sound o a =
      sound_cond (eqb o 4) (gives bool (truth (not (is_true a)))) (gives t (read_back t (2 ^ t.p - 1 - pattern t a))) (bool_small (not (is_true a)))
      (read_small (2 ^ t.p - 1 - pattern t a) (ones_sub-lt t.p (pattern t a)))
