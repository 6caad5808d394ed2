-- Wrapping, once over the precision p: a wrapped value is of its type, and a value of its type wraps to itself.
-- Assumes nothing.
use mathlib.Core.Path.{◌≡◌, refl, ap, ◌∙◌}
use mathlib.Core.Bool.{Bool, true, false, cond, ◌&&◌}
use Prim.Native.Nat.{ℕ, zero, suc, ◌-◌, ◌*◌, ◌^◌, ◌≤◌, ◌<◌}
use native.Mathlib.Nat.{mod-lt, mod-eq_of_lt, pow-suc}
use native.Mathlib.Omega.{arith}
use native.Mathlib.Numerals.{sub-one}
use lib.Dec.{leb, ltb, eqb, lit<}
use lib.IntN.{ℤ, pos, negsuc, neg_ℤ, ◌-ℤ◌}
use lib.Signed.{mag, le_z}
use lib.Pow.{pow_pos, pow_mono}
use borrow.Author.Tests.{lt-ltb, le-ltb, le-leb, ltb-true, ltb-false, leb-true}
use Rattle.model.specs.declared.Ty.{Ty}
use Rattle.model.specs.Bytes.{mod_z, signed_of, four_at, value_at, four_bytes, value_bytes}
use Rattle.model.specs.Values.{least, greatest, within, pattern, read_back, wrap}
use Rattle.model.proofs.Tests.{and_left, and_right, cases}

-- ── powers ───────────────────────────────────────────────────────────────────────────────────

pub pow_half : (p : ℕ) → 1 ≤ p → 2 ^ p ≡ 2 * 2 ^ (p - 1)
pow_half zero h = omega arith
pow_half (suc q) h = rw (sub-one (suc q)) (pow-suc 2 q ∙ omega arith)

-- ── the remainder and the pattern ────────────────────────────────────────────────────────────

pub mod_z_lt : (z : ℤ) (m : ℕ) → 0 < m → mod_z z m < m
unfolding mod_z
mod_z_lt (pos a) m h = mod-lt a h
mod_z_lt (negsuc a) m h = omega arith

pub pattern_lt : (t : Ty) (z : ℤ) → pattern t z < 2 ^ t.p
pattern_lt t z = unfold pattern in mod_z_lt z (2 ^ t.p) (pow_pos t.p)

-- ── a pattern read back ──────────────────────────────────────────────────────────────────────

-- the upper half less m, m being twice h
abbrev half_less : Bool → ℕ → ℕ → ℤ
half_less b n m = cond b (pos n) (pos n -ℤ pos m)

abbrev between : ℕ → ℤ → Bool
between h z = le_z (neg_ℤ (pos h)) z && le_z z (pos (h - 1))

half_in : (b : Bool) (n h m : ℕ) → n < m → m ≡ 2 * h → ltb n h ≡ b → between h (half_less b n m) ≡ true
half_in b n zero m l e t = absurd (omega arith)
half_in b n (suc k) zero l e t = absurd (omega arith)
half_in true n (suc k) (suc j) l e t = le-leb n (suc k - 1) (omega (arith, ltb-true n (suc k) t))
half_in false n (suc k) (suc j) l e t = rw (lt-ltb n (suc j) l, le-leb (suc j - suc n) k (omega (arith, ltb-false n (suc k) t)))

half_mag : (b : Bool) (n m : ℕ) → n < m → mag (half_less b n m) < m
half_mag b n zero l = absurd (omega arith)
half_mag true n (suc j) l = l
half_mag false n (suc j) l = rw (lt-ltb n (suc j) l) (omega arith)

-- by the kind: signed or not
pub read_within : (t : Ty) (n : ℕ) → 1 ≤ t.p → n < 2 ^ t.p → within t (read_back t n) ≡ true
read_within t n h l = unfold within read_back signed_of least greatest in
    cases (eqb t.kind 1) (λ e. rw e (half_in (ltb n (2 ^ (t.p - 1))) n (2 ^ (t.p - 1)) (2 ^ t.p) l (pow_half t.p h) refl))
    (λ e. rw (e, le-leb 0 n (omega arith), le-leb n (2 ^ t.p - 1) (omega arith)))

pub read_mag : (t : Ty) (n : ℕ) → n < 2 ^ t.p → mag (read_back t n) < 2 ^ t.p
read_mag t n l = unfold read_back signed_of in cases (eqb t.kind 1) (λ e. rw e (half_mag (ltb n (2 ^ (t.p - 1))) n (2 ^ t.p) l)) (λ e. rw e l)

-- ── wrapping ─────────────────────────────────────────────────────────────────────────────────

pub wrap_within : (t : Ty) (z : ℤ) → 1 ≤ t.p → within t (wrap t z) ≡ true
wrap_within t z h = unfold wrap in read_within t (pattern t z) h (pattern_lt t z)

pub wrap_mag : (t : Ty) (z : ℤ) → mag (wrap t z) < 2 ^ t.p
wrap_mag t z = unfold wrap in read_mag t (pattern t z) (pattern_lt t z)

-- a value between -h and h - 1, back from its remainder modulo m
signed_back : (z : ℤ) (h m : ℕ) → 0 < h → m ≡ 2 * h → between h z ≡ true → half_less (ltb (mod_z z m) h) (mod_z z m) m ≡ z
unfolding mod_z
signed_back (pos n) h m g e w =
    let l : n ≤ h - 1 = leb-true n (h - 1) (and_right (le_z (neg_ℤ (pos h)) (pos n)) (leb n (h - 1)) w) in
    rw (mod-eq_of_lt {n = n} {m = m} (omega arith), lt-ltb n h (omega arith))
signed_back (negsuc n) zero m g e w = absurd (omega arith)
signed_back (negsuc n) (suc k) zero g e w = absurd (omega arith)
signed_back (negsuc n) (suc k) (suc j) g e w =
    let l : n ≤ k = leb-true n k (and_left (leb n k) true w) in
    rw (mod-eq_of_lt {n = n} {m = suc j} (omega arith), le-ltb (suc j - suc n) (suc k) (omega arith), lt-ltb (suc j - suc n) (suc j) (omega arith)) (ap negsuc (omega arith))

plain_back : (z : ℤ) (m : ℕ) → 0 < m → (le_z (pos 0) z && le_z z (pos (m - 1))) ≡ true → pos (mod_z z m) ≡ z
unfolding mod_z
plain_back (pos n) m h w = ap pos (mod-eq_of_lt (omega (arith, leb-true n (m - 1) (and_right (leb 0 n) (leb n (m - 1)) w))))
plain_back (negsuc n) m h w = absurd (let z : ◌≡◌ {A = ℕ} 0 1 = cc in omega arith)

pub wrap_id : (t : Ty) (z : ℤ) → 1 ≤ t.p → within t z ≡ true → wrap t z ≡ z
wrap_id t z h w = unfold wrap within pattern read_back signed_of least greatest in
    cases (eqb t.kind 1) (λ e. rw e (signed_back z (2 ^ (t.p - 1)) (2 ^ t.p) (pow_pos (t.p - 1)) (pow_half t.p h) (rw e at w)))
    (λ e. rw e (plain_back z (2 ^ t.p) (pow_pos t.p) (rw e at w)))

pub within_mag : (t : Ty) (z : ℤ) → 1 ≤ t.p → within t z ≡ true → mag z < 2 ^ t.p
within_mag t z h w = rw (wrap_id t z h w) at (wrap_mag t z)

pub pow_30 : {p : ℕ} → p ≤ 30 → 2 ^ p ≤ 1073741824
pow_30 h = pow_mono h

-- ── four bytes ───────────────────────────────────────────────────────────────────────────────

mag_between : (z : ℤ) → mag z < 2147483648 → between 2147483648 z ≡ true
mag_between (pos n) l = le-leb n 2147483647 (omega arith)
mag_between (negsuc n) l = rw (le-leb n 2147483647 (omega arith))

-- a four-byte value is written and read back
pub value_bytes_lem : (z : ℤ) → mag z < 2147483648 → value_at (value_bytes z) 0 ≡ z
value_bytes_lem z h = unfold value_at value_bytes signed_of four_at four_bytes in
    let back : four_at (four_bytes (mod_z z 4294967296)) 0 ≡ mod_z z 4294967296 = omega (arith, mod_z_lt z 4294967296 (lit< tt)) in
    rw back (signed_back z 2147483648 4294967296 (lit< tt) (omega arith) (mag_between z h))
