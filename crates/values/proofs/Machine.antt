-- What the machine's 64-bit numbers hold: powers, remainders and patterns, read back from their bits.
-- Assumes nothing.
use mathlib.Core.Path.{◌≡◌, refl, sym, ap, ◌∙◌}
use mathlib.Core.Bool.{Bool, true, false, cond}
use mathlib.Core.Logic.{⊎_elim, ◌⊎◌, inl, inr}
use Prim.Native.Nat.{ℕ, zero, suc, ◌+◌, ◌-◌, ◌*◌, ◌/◌, ◌%◌, ◌^◌, ◌≤◌, ◌<◌}
use native.Mathlib.Nat.{div-le_self, mod-lt, mod-eq_of_lt, suc-mod, mod_self, eq-or-lt_of_le, mul-le-mul, le_trans, lt_of_le_of_lt, pos_of_ne-zero}
use native.Mathlib.Omega.{arith}
use lib.Dec.{T, leb, ltb, eqb, lit<}
use lib.IntN.{ℤ, pos, negsuc, neg_ℤ, nat_abs, sub_ℕ, ◌+ℤ◌, ◌-ℤ◌, ◌*ℤ◌}
use lib.Signed.{mag, lt_z, le_z, quot_z, rem_z, non_neg, mag_rem}
use lib.Bits.{bit_and}
use Rattle.std.proofs.lemmas.Nat.{and_mask, pow-add, shr_below, shr_split, mod_low}
use Rattle.std.specs.Ordering.{int_cmp, is_lt, is_le}
use Rattle.std.proofs.Common.{Less, Equal, Greater}
use lib.Pow.{pow_pos, pow_mono, shl_exact}
use mir.Syntax.{w64}
use mir.Val.{SFits, Fits, to_z, of_z}
use mir.Facts.{to_z_pos, to_z-of_z}
use borrow.Author.Tests.{lt-ltb, le-ltb, le-leb, lt-leb, ltb-true, ltb-false, eq-eqb, ne_eqb, eqb-true, eqb-false}
use Rattle.model.specs.Bytes.{mod_z}
use Rattle.model.specs.Values.{eq_z}
use Rattle.model.proofs.Wrapping.{mod_z_lt}

-- ── powers ───────────────────────────────────────────────────────────────────────────────────

pub pow_62 : {p : ℕ} → p ≤ 62 → 2 ^ p ≤ 4611686018427387904
pow_62 h = pow_mono h

pub shl_one : (p : ℕ) → p ≤ 62 → (1 * 2 ^ p) % 18446744073709551616 ≡ 2 ^ p
shl_one p h = shl_exact {a = 1} 1 p 64 (lit< tt) (omega arith) ∙ omega arith

-- ── a signed local, back from its bits ───────────────────────────────────────────────────────

pub back : {z : ℤ} → mag z < 2 ^ 63 → to_z w64 (of_z w64 z) ≡ z
back h = to_z-of_z {w = w64} (record { sfits = h })

pub pos_is : {z : ℤ} {n : ℕ} → z ≡ pos n → n < 2 ^ 63 → to_z w64 (of_z w64 z) ≡ pos n
pos_is {z} {n} e h = rw (e, to_z_pos w64 h) refl

pub pow_is : (p : ℕ) {r : ℤ} → p ≤ 62 → r ≡ pos (2 ^ p) → to_z w64 (of_z w64 r) ≡ pos (2 ^ p)
pow_is p h e = pos_is e (omega (arith, pow_62 h))

pub pos_fits : {z : ℤ} {n : ℕ} → z ≡ pos n → n < 2 ^ 63 → SFits w64 z
pos_fits e h = rw e (record { sfits = h })

-- an operation on two signed locals
pub on_bits : (f : ℤ → ℤ → ℤ) (a b : ℤ) → SFits w64 a → SFits w64 b → f (to_z w64 (of_z w64 a)) (to_z w64 (of_z w64 b)) ≡ f a b
on_bits f a b ha hb = rw (to_z-of_z ha, to_z-of_z hb)

pub bits_of : (f : ℤ → ℤ → ℤ) (a b : ℤ) → SFits w64 a → SFits w64 b → SFits w64 (f a b) → to_z w64 (of_z w64 (f (to_z w64 (of_z w64 a)) (to_z w64 (of_z w64 b)))) ≡ f a b
bits_of f a b ha hb hf = rw (to_z-of_z ha, to_z-of_z hb) (to_z-of_z hf)

-- equal numbers have equal bits
eqb_by : (t : Bool) (m n a b : ℕ) → eqb a b ≡ t → (a ≡ b → m ≡ n) → (m ≡ n → a ≡ b) → eqb m n ≡ t
eqb_by true m n a b e f g = eq-eqb m n (f (eqb-true a b e))
eqb_by false m n a b e f g = ne_eqb m n (λ q. eqb-false a b e (g q))

pub eqb_bits : (a b : ℤ) → SFits w64 a → SFits w64 b → eqb (of_z w64 a) (of_z w64 b) ≡ eq_z a b
unfolding eq_z
eqb_bits (pos a) (pos b) h k = refl
eqb_bits (pos a) (negsuc b) h k = ne_eqb a (2 ^ 64 - suc b) (λ e. omega (arith, h.sfits, k.sfits))
eqb_bits (negsuc a) (pos b) h k = ne_eqb (2 ^ 64 - suc a) b (λ e. omega (arith, h.sfits, k.sfits))
eqb_bits (negsuc a) (negsuc b) h k = eqb_by (eqb a b) (2 ^ 64 - suc a) (2 ^ 64 - suc b) a b refl (λ e. omega arith) (λ e. omega (arith, h.sfits, k.sfits))

-- a test for zero, and how it came out
pub zero_bits : (b : ℤ) → SFits w64 b → eqb (of_z w64 b) 0 ≡ eq_z b (pos 0)
zero_bits b h = eqb_bits b (pos 0) h (record { sfits = lit< tt })

module _ {b : ℤ} (h : SFits w64 b) where
  pub is_zero : of_z w64 b ≡ 0 → eq_z b (pos 0) ≡ true
  is_zero e = sym (zero_bits b h) ∙ eq-eqb (of_z w64 b) 0 e

  pub not_zero : (of_z w64 b ≡ 0 → ⊥) → eq_z b (pos 0) ≡ false
  not_zero n = sym (zero_bits b h) ∙ ne_eqb (of_z w64 b) 0 n

-- ── the remainder modulo 2^p ─────────────────────────────────────────────────────────────────

pub mod_small : (p : ℕ) (x : ℤ) → p ≤ 62 → mod_z x (2 ^ p) < 2 ^ 63
mod_small p x h = omega (arith, mod_z_lt x (2 ^ p) (pow_pos p), pow_62 h)

rows : (j q m : ℕ) → (j + suc q) * m ≡ j * m + (q * m + m)
rows j q m = grind arith

-- the lowest p bits of a number below 0
low_neg : (p a : ℕ) → p ≤ 62 → a < 2 ^ 63 → (2 ^ 64 - suc a) % 2 ^ p ≡ 2 ^ p - suc (a % 2 ^ p)
low_neg p a h l =
    let k = 64 - p in
    let q = a / 2 ^ p in
    let j = 2 ^ k - suc q in
    let sum : k + p ≡ 64 = omega arith in
    let whole : 2 ^ k * 2 ^ p ≡ 2 ^ 64 = sym (pow-add 2 k p) ∙ ap (λ (i : ℕ). 2 ^ i) sum in
    let below : q < 2 ^ k = shr_below a k p (rw sum (omega arith)) in
    let is : 2 ^ k ≡ j + suc q = omega (arith, below) in
    let parts : 2 ^ k * 2 ^ p ≡ j * 2 ^ p + (q * 2 ^ p + 2 ^ p) = ap (λ (i : ℕ). i * 2 ^ p) is ∙ rows j q (2 ^ p) in
    let e : 2 ^ 64 - suc a ≡ j * 2 ^ p + (2 ^ p - suc (a % 2 ^ p)) = omega (arith, whole, parts, shr_split a p, mod-lt a (pow_pos p)) in
    rw e (mod_low j p (2 ^ p - suc (a % 2 ^ p)) (omega (arith, pow_pos p)))

-- the lowest p bits are the remainder
pub low_bits : (p : ℕ) (x : ℤ) → SFits w64 x → p ≤ 62 → bit_and (of_z w64 x) (2 ^ p - 1) ≡ mod_z x (2 ^ p)
unfolding mod_z
low_bits p (pos a) f h = and_mask a p
low_bits p (negsuc a) f h = and_mask (2 ^ 64 - suc a) p ∙ low_neg p a h f.sfits

-- a pattern, as it is cast
pub nat_cast : {z : ℤ} {n : ℕ} → z ≡ pos n → n < 2 ^ 63 → T (non_neg (to_z w64 (of_z w64 z))) × Fits w64 (nat_abs (to_z w64 (of_z w64 z)))
nat_cast {z} {n} e h = rw (e, to_z_pos w64 h) (tt, record { fits = omega arith })

pub nat_cast_is : {z : ℤ} {n : ℕ} → z ≡ pos n → n < 2 ^ 63 → nat_abs (to_z w64 (of_z w64 z)) ≡ n
nat_cast_is {z} {n} e h = rw (e, to_z_pos w64 h) refl

-- ── n - 2^p ──────────────────────────────────────────────────────────────────────────────────

pub less_fits : (n m : ℕ) → n < m → m ≤ 4611686018427387904 → SFits w64 (pos n -ℤ pos m)
less_fits n zero h l = absurd (omega arith)
less_fits n (suc m) h l = record { sfits = rw (lt-ltb n (suc m) h) (omega arith) }

-- ── the remainder modulo 2^p ─────────────────────────────────────────────────────────────────

-- suc a % m, by whether a % m is the last
suc-mod_cases : (a m : ℕ) → 0 < m → ((suc a % m ≡ 0) × (suc (a % m) ≡ m)) ⊎ (suc a % m ≡ suc (a % m))
suc-mod_cases a m h = ⊎_elim (λ e. inl (suc-mod a m ∙ ap (λ (k : ℕ). k % m) e ∙ mod_self m, e)) (λ l. inr (suc-mod a m ∙ mod-eq_of_lt l)) (eq-or-lt_of_le (mod-lt a h))

low_go : (a m k : ℕ) → 0 < m → suc a % m ≡ k → lt_z (neg_ℤ (pos k)) (pos 0) ≡ true → neg_ℤ (pos k) +ℤ pos m ≡ pos (m - suc (a % m))
low_go a m zero h e t = cc
low_go a m (suc k) h e t =
    ⊎_elim (λ w. absurd (omega arith))
    (λ w. rw (le-ltb m (suc k) (omega (arith, mod-lt a h))) (ap pos (omega arith)))
    (suc-mod_cases a m h)

high_go : (a m k : ℕ) → 0 < m → suc a % m ≡ k → lt_z (neg_ℤ (pos k)) (pos 0) ≡ false → neg_ℤ (pos k) ≡ pos (m - suc (a % m))
high_go a m zero h e t = ⊎_elim (λ w. ap pos (omega arith)) (λ w. absurd (omega arith)) (suc-mod_cases a m h)
high_go a m (suc k) h e t = cc

-- a negative remainder, plus m
pub rem_low : (x : ℤ) (m : ℕ) → 0 < m → lt_z (rem_z x (pos m)) (pos 0) ≡ true → rem_z x (pos m) +ℤ pos m ≡ pos (mod_z x m)
unfolding mod_z
rem_low (pos a) m h t = absurd (omega (arith, ltb-true (a % m) 0 t))
rem_low (negsuc a) m h t = low_go a m (suc a % m) h refl t

-- one that is not
pub rem_high : (x : ℤ) (m : ℕ) → 0 < m → lt_z (rem_z x (pos m)) (pos 0) ≡ false → rem_z x (pos m) ≡ pos (mod_z x m)
unfolding mod_z
rem_high (pos a) m h t = refl
rem_high (negsuc a) m h t = high_go a m (suc a % m) h refl t

-- x % 2^p, as the machine has it
module _ (p : ℕ) (x : ℤ) {r : ℤ} (hx : SFits w64 x) (hp : p ≤ 62) (e : r ≡ pos (2 ^ p)) where
  quot_small : (y : ℤ) → mag y < 2 ^ 63 → mag (quot_z y (pos (2 ^ p))) < 2 ^ 63
  quot_small (pos a) h = omega (arith, div-le_self a (2 ^ p))
  quot_small (negsuc a) h = neg_small (suc a / 2 ^ p) (omega (arith, div-le_self (suc a) (2 ^ p)))
    where
      neg_small : (q : ℕ) → q ≤ 2 ^ 63 → mag (neg_ℤ (pos q)) < 2 ^ 63
      neg_small zero l = lit< tt
      neg_small (suc q) l = omega arith

  pub rem_need : (0 < of_z w64 r) × SFits w64 (quot_z (to_z w64 (of_z w64 x)) (to_z w64 (of_z w64 r)))
  rem_need = (rw e (pow_pos p), rw (to_z-of_z hx, pow_is p hp e) (record { sfits = quot_small x hx.sfits }))

-- ── sums, products and quotients of values of 32 bits ────────────────────────────────────────

mag_neg_pos : (n : ℕ) → mag (neg_ℤ (pos n)) ≤ n
mag_neg_pos zero = omega arith
mag_neg_pos (suc n) = omega arith

mag_subℕ : (t : Bool) (a b : ℕ) → ltb a b ≡ t → mag (sub_ℕ a b) ≤ a + b
mag_subℕ true a b e = rw e (omega arith)
mag_subℕ false a b e = rw e (omega arith)

mag_add : (a b : ℤ) → mag (a +ℤ b) ≤ mag a + mag b + 1
mag_add (pos a) (pos b) = omega arith
mag_add (pos a) (negsuc b) = omega (arith, mag_subℕ (ltb a (suc b)) a (suc b) refl)
mag_add (negsuc a) (pos b) = omega (arith, mag_subℕ (ltb b (suc a)) b (suc a) refl)
mag_add (negsuc a) (negsuc b) = omega arith

mag_negℤ : (b : ℤ) → mag (neg_ℤ b) ≤ mag b + 1
mag_negℤ (pos zero) = omega arith
mag_negℤ (pos (suc n)) = omega arith
mag_negℤ (negsuc n) = omega arith

mag_mul : (a b : ℤ) → mag (a *ℤ b) ≤ (mag a + 1) * (mag b + 1)
mag_mul (pos a) (pos b) = mul-le-mul (omega arith) (omega arith)
mag_mul (pos a) (negsuc b) = le_trans (mag_neg_pos (a * suc b)) (mul-le-mul (omega arith) (omega arith))
mag_mul (negsuc a) (pos b) = le_trans (mag_neg_pos (suc a * b)) (mul-le-mul (omega arith) (omega arith))
mag_mul (negsuc a) (negsuc b) = mul-le-mul (omega arith) (omega arith)

mag_quot : (a b : ℤ) → mag (quot_z a b) ≤ mag a + 1
mag_quot (pos a) (pos b) = omega (arith, div-le_self a b)
mag_quot (pos a) (negsuc b) = omega (arith, mag_neg_pos (a / suc b), div-le_self a (suc b))
mag_quot (negsuc a) (pos b) = omega (arith, mag_neg_pos (suc a / b), div-le_self (suc a) b)
mag_quot (negsuc a) (negsuc b) = omega (arith, div-le_self (suc a) (suc b))

module _ (a b : ℤ) (ha : mag a ≤ 2 ^ 31) (hb : mag b ≤ 2 ^ 31) where
  pub add_fits : SFits w64 (a +ℤ b)
  add_fits = record { sfits = omega (arith, mag_add a b) }

  pub sub_fits : SFits w64 (a -ℤ b)
  sub_fits = record { sfits = omega (arith, mag_add a (neg_ℤ b), mag_negℤ b) }

  pub mul_fits : SFits w64 (a *ℤ b)
  mul_fits = record { sfits = lt_of_le_of_lt (le_trans (mag_mul a b) (mul-le-mul {n₂ = 2 ^ 31 + 1} {m₂ = 2 ^ 31 + 1} (omega arith) (omega arith))) (lit< tt) }

  pub quot_fits : SFits w64 (quot_z a b)
  quot_fits = record { sfits = omega (arith, mag_quot a b) }

  pub rem_fits : SFits w64 (rem_z a b)
  rem_fits = record { sfits = omega (arith, mag_rem a b) }

  small_left : SFits w64 a
  small_left = record { sfits = omega arith }

  small_right : SFits w64 b
  small_right = record { sfits = omega arith }

  -- what a quotient asks
  pub quot_need : (of_z w64 b ≡ 0 → ⊥) → (0 < of_z w64 b) × SFits w64 (quot_z (to_z w64 (of_z w64 a)) (to_z w64 (of_z w64 b)))
  quot_need n = (pos_of_ne-zero n, rw (on_bits quot_z a b small_left small_right) quot_fits)

-- a value times 2^n, n a count of five bits
module _ (a : ℤ) (n : ℕ) (h : mag a ≤ 2 ^ 31) (l : n < 32) where
  pub shift_fits : SFits w64 (a *ℤ pos (2 ^ n))
  shift_fits = mul_fits a (pos (2 ^ n)) h (pow_mono {i = n} {j = 31} (omega arith))

  pub shift_need : to_z w64 (of_z w64 a) *ℤ to_z w64 ((1 * 2 ^ n) % 18446744073709551616) ≡ a *ℤ pos (2 ^ n)
  shift_need = rw (shl_one n (omega arith), back {z = a} (omega arith), to_z_pos w64 {n = 2 ^ n} (omega (arith, pow_62 {p = n} (omega arith))))

-- ── in a range: from its least value to below its end ────────────────────────────────────────

neg_is : (m : ℕ) → 0 < m → pos 0 -ℤ pos m ≡ neg_ℤ (pos m)
neg_is zero h = absurd (omega arith)
neg_is (suc k) h = rw (lt-ltb 0 (suc k) h) (ap negsuc (omega arith))

module _ (m : ℕ) {r : ℤ} (h : 0 < m) (l : m ≤ 4611686018427387904) (e : r ≡ pos m) where
  least_as : pos 0 -ℤ to_z w64 (of_z w64 r) ≡ neg_ℤ (pos m)
  least_as = rw (pos_is e (omega arith)) (neg_is m h)

  pub least_fits : SFits w64 (pos 0 -ℤ to_z w64 (of_z w64 r))
  least_fits = rw least_as (record { sfits = omega (arith, mag_neg_pos m) })

  pub least_is : to_z w64 (of_z w64 (pos 0 -ℤ to_z w64 (of_z w64 r))) ≡ neg_ℤ (pos m)
  least_is = to_z-of_z {w = w64} least_fits ∙ least_as

  pub end_is : to_z w64 (of_z w64 r) ≡ pos m
  end_is = pos_is e (omega arith)

-- comparisons as std has them
pub lt_is : (x y : ℤ) → is_lt (int_cmp x y) ≡ lt_z x y
lt_is x y = go (lt_z x y) (lt_z y x)
  where
    go : (a b : Bool) → is_lt (cond a Less (cond b Greater Equal)) ≡ a
    go true b = refl
    go false true = refl
    go false false = refl

le_by : (i j : ℕ) (t u : Bool) → ltb i j ≡ t → ltb j i ≡ u → is_le (cond t Less (cond u Greater Equal)) ≡ leb i j
le_by i j true u e f = sym (le-leb i j (omega (arith, ltb-true i j e)))
le_by i j false true e f = sym (lt-leb i j (ltb-true j i f))
le_by i j false false e f = sym (le-leb i j (ltb-false j i f))

pub le_is : (x y : ℤ) → is_le (int_cmp x y) ≡ le_z x y
le_is (pos a) (pos b) = le_by a b (ltb a b) (ltb b a) refl refl
le_is (pos a) (negsuc b) = refl
le_is (negsuc a) (pos b) = refl
le_is (negsuc a) (negsuc b) = le_by b a (ltb b a) (ltb a b) refl refl

pub below_is : (z : ℤ) (m : ℕ) → 0 < m → lt_z z (pos m) ≡ le_z z (pos (m - 1))
below_is (pos a) m h = by_test (ltb a m) refl
  where
    by_test : (t : Bool) → ltb a m ≡ t → t ≡ leb a (m - 1)
    by_test true e = sym (le-leb a (m - 1) (omega (arith, ltb-true a m e)))
    by_test false e = sym (lt-leb a (m - 1) (omega (arith, ltb-false a m e)))
below_is (negsuc a) m h = refl
