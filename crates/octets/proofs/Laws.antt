-- Laws of bytes and the numbers that they hold: what is written is read back, and what is read is what was written.
-- Assumes nothing.
use Prim.Native.Nat.{ℕ, suc, ◌+◌, ◌-◌, ◌*◌, ◌/◌, ◌%◌, ◌≤◌, ◌<◌}
use mathlib.Core.Path.{◌≡◌, refl, sym, ap, ◌∙◌}
use mathlib.Core.Bool.{Bool, true, false}
use mathlib.Core.List.{List, [], ◌∷◌, ◌++◌}
use native.Mathlib.Omega.{arith}
use native.Mathlib.Nat.{mod-eq_of_lt, add-sub_cancel_left}
use lib.Dec.{T, ltb}
use lib.IntN.{ℤ, pos, negsuc, nat_abs, ◌-ℤ◌}
use lib.Signed.{mag, non_neg}
use lib.ListN.{length, get_or, take, drop}
use lib.Seq.{get_or-drop}
use mir.Syntax.{w32, w64}
use mir.Val.{SFits, Fits, to_z, of_z}
use mir.Facts.{to_z_pos, to_z-of_z}
use borrow.Author.Tests.{lt-ltb, le-ltb, ltb-true, ltb-false}
use Rattle.model.specs.declared.Token.{Token}
use Rattle.std.specs.Prelude.{Some, None}
use Rattle.model.specs.Bytes.{mod_z, signed_of, two_at, four_at, value_at, two_bytes, four_bytes, value_bytes, stretch}
use Rattle.model.specs.States.{token_bytes}
use Rattle.model.specs.NetworkFile.{field_at}

-- ── bounds, where each byte is one ───────────────────────────────────────────────────────────

-- each is below 256
abbrev pub Octets : List ℕ → Type 0
Octets s = (i : ℕ) → get_or s i 0 < 256

-- a four-byte number is two of two bytes
pub four_two : (s : List ℕ) (at : ℕ) → four_at s at ≡ two_at s at * 65536 + two_at s (at + 2)
unfolding four_at two_at
four_two s at = let e : at + 2 + 1 ≡ at + 3 = omega arith in rw e (omega arith)

-- ── two's complement ─────────────────────────────────────────────────────────────────────────

-- the lower half, and the upper one
pub signed_low : (n : ℕ) → n < 2147483648 → signed_of 32 n ≡ pos n
unfolding signed_of
signed_low n h = rw (lt-ltb n 2147483648 h)

pub signed_high : (n : ℕ) → 2147483648 ≤ n → signed_of 32 n ≡ pos n -ℤ pos 4294967296
unfolding signed_of
signed_high n h = rw (le-ltb n 2147483648 h)

-- the upper half less 2^32 is negative
pub high_is : (n : ℕ) → n < 4294967296 → pos n -ℤ pos 4294967296 ≡ negsuc (4294967295 - n)
high_is n h = rw (lt-ltb n 4294967296 h) (ap negsuc (omega arith))

pub mag_signed : (n : ℕ) → n < 4294967296 → mag (signed_of 32 n) < 2147483648
mag_signed n h = go (ltb n 2147483648) refl
  where
    go : (b : Bool) → ltb n 2147483648 ≡ b → mag (signed_of 32 n) < 2147483648
    go true e = rw (signed_low n (ltb-true n 2147483648 e)) (ltb-true n 2147483648 e)
    go false e = let g = ltb-false n 2147483648 e in rw (signed_high n g, high_is n h) (omega arith)

-- the pattern of a value: read back it is the value, and the value of a pattern has that pattern
pub signed_mod : (z : ℤ) → mag z < 2147483648 → signed_of 32 (mod_z z 4294967296) ≡ z
unfolding mod_z
signed_mod (pos n) h = rw (mod-eq_of_lt {n = n} {m = 4294967296} (omega arith)) (signed_low n h)
signed_mod (negsuc n) h =
    rw (mod-eq_of_lt {n = n} {m = 4294967296} (omega arith), signed_high (4294967296 - suc n) (omega arith), high_is (4294967296 - suc n) (omega arith)) (ap negsuc (omega arith))

pub mod_signed : (n : ℕ) → n < 4294967296 → mod_z (signed_of 32 n) 4294967296 ≡ n
unfolding mod_z
mod_signed n h = go (ltb n 2147483648) refl
  where
    go : (b : Bool) → ltb n 2147483648 ≡ b → mod_z (signed_of 32 n) 4294967296 ≡ n
    go true e = rw (signed_low n (ltb-true n 2147483648 e)) (mod-eq_of_lt {n = n} {m = 4294967296} h)
    go false e = rw (signed_high n (ltb-false n 2147483648 e), high_is n h, mod-eq_of_lt {n = 4294967295 - n} {m = 4294967296} (omega arith)) (omega arith)

-- ── as the machine has them ──────────────────────────────────────────────────────────────────

-- a local of a signed type, as its bits are read
pub back : {z : ℤ} → mag z < 9223372036854775808 → to_z w64 (of_z w64 z) ≡ z
back h = to_z-of_z {w = w64} (record { sfits = h })

-- a number from 0 on, as it is cast
pub cast_fits : {z : ℤ} {n : ℕ} → z ≡ pos n → n < 4294967296 → T (non_neg (to_z w64 (of_z w64 z))) × Fits w64 (nat_abs (to_z w64 (of_z w64 z)))
cast_fits {z} {n} e h = rw (e, to_z_pos w64 {n = n} (omega arith)) (tt, record { fits = omega arith })

pub cast_is : {z : ℤ} {n : ℕ} → z ≡ pos n → n < 4294967296 → (nat_abs (to_z w64 (of_z w64 z)) ≡ n) × (nat_abs (to_z w64 (of_z w64 z)) < 4294967296)
cast_is {z} {n} e h = rw (e, to_z_pos w64 {n = n} (omega arith)) (refl, h)

-- ── written and read ─────────────────────────────────────────────────────────────────────────

pub two_back : (n : ℕ) (rest : List ℕ) → two_at (two_bytes n ++ rest) 0 ≡ n
unfolding two_at two_bytes
two_back n rest = omega arith

pub four_back : (n : ℕ) (rest : List ℕ) → four_at (four_bytes n ++ rest) 0 ≡ n
unfolding four_at four_bytes
four_back n rest = omega arith

pub value_back : (z : ℤ) (rest : List ℕ) → mag z < 2147483648 → value_at (value_bytes z ++ rest) 0 ≡ z
unfolding value_at value_bytes
value_back z rest h = ap (signed_of 32) (four_back (mod_z z 4294967296) rest) ∙ signed_mod z h

pub two_take : (s : List ℕ) → Octets s → 2 ≤ length s → two_bytes (two_at s 0) ≡ take 2 s
unfolding two_at two_bytes
two_take [] b h = absurd (omega arith)
two_take (x ∷ []) b h = absurd (omega arith)
two_take (x ∷ y ∷ s) b h =
    let e : (x * 256 + y) / 256 ≡ x = omega (arith, b 1) in
    let f : (x * 256 + y) % 256 ≡ y = omega (arith, b 1) in
    rw (e, f)

pub four_take : (s : List ℕ) → Octets s → 4 ≤ length s → four_bytes (four_at s 0) ≡ take 4 s
unfolding four_at four_bytes
four_take [] b h = absurd (omega arith)
four_take (x ∷ []) b h = absurd (omega arith)
four_take (x ∷ y ∷ []) b h = absurd (omega arith)
four_take (x ∷ y ∷ z ∷ []) b h = absurd (omega arith)
four_take (x ∷ y ∷ z ∷ w ∷ s) b h =
    let n : ℕ = ((x * 256 + y) * 256 + z) * 256 + w in
    let e : n / 16777216 ≡ x = omega (arith, b 1, b 2, b 3) in
    let f : n / 65536 % 256 ≡ y = omega (arith, b 1, b 2, b 3) in
    let g : n / 256 % 256 ≡ z = omega (arith, b 2, b 3) in
    let k : n % 256 ≡ w = omega (arith, b 3) in
    rw (e, f, g, k)

pub four_below : (s : List ℕ) (at : ℕ) → Octets s → four_at s at < 4294967296
unfolding four_at
four_below s at b = omega (arith, b at, b (at + 1), b (at + 2), b (at + 3))

pub two_below : (s : List ℕ) (at : ℕ) → Octets s → two_at s at < 65536
unfolding two_at
two_below s at b = omega (arith, b at, b (at + 1))

pub value_below : (s : List ℕ) (at : ℕ) → Octets s → mag (value_at s at) < 2147483648
unfolding value_at
value_below s at b = mag_signed (four_at s at) (four_below s at b)

pub value_take : (s : List ℕ) → Octets s → 4 ≤ length s → value_bytes (value_at s 0) ≡ take 4 s
unfolding value_bytes value_at
value_take s b h = ap four_bytes (mod_signed (four_at s 0) (four_below s 0 b)) ∙ four_take s b h

-- ── lengths ──────────────────────────────────────────────────────────────────────────────────

pub length_two : (n : ℕ) → length (two_bytes n) ≡ 2
unfolding two_bytes
length_two n = refl

pub length_value : (z : ℤ) → length (value_bytes z) ≡ 4
unfolding value_bytes four_bytes
length_value z = refl

pub length-token : (t : Token) → length (token_bytes t) ≡ 5
unfolding token_bytes value_bytes four_bytes
length-token t = refl

-- ── further on ───────────────────────────────────────────────────────────────────────────────

pub two_drop : (k : ℕ) (s : List ℕ) (at : ℕ) → two_at (drop k s) at ≡ two_at s (k + at)
unfolding two_at
two_drop k s at = let e : k + (at + 1) ≡ k + at + 1 = omega arith in rw (get_or-drop k s at 0, get_or-drop k s (at + 1) 0, e)

pub four_drop : (k : ℕ) (s : List ℕ) (at : ℕ) → four_at (drop k s) at ≡ four_at s (k + at)
unfolding four_at
four_drop k s at =
    let e : k + (at + 2) ≡ k + at + 2 = omega arith in
    four_two (drop k s) at ∙ rw (two_drop k s at, two_drop k s (at + 2), e) (sym (four_two s (k + at)))

pub value_drop : (k : ℕ) (s : List ℕ) (at : ℕ) → value_at (drop k s) at ≡ value_at s (k + at)
unfolding value_at
value_drop k s at = ap (signed_of 32) (four_drop k s at)

-- ── as std reads and writes them ─────────────────────────────────────────────────────────────

-- a number, from the bytes behind its offset
pub two_read : (s rest : List ℕ) (at : ℕ) → rest ≡ drop at s → two_at s at ≡ get_or rest 0 0 * 256 + get_or rest 1 0
unfolding two_at
two_read s rest at e = rw e (sym (two_drop at s 0 ∙ ap (two_at s) (omega arith)))

pub four_read : (s rest : List ℕ) (at : ℕ) → rest ≡ drop at s → four_at s at ≡ ((get_or rest 0 0 * 256 + get_or rest 1 0) * 256 + get_or rest 2 0) * 256 + get_or rest 3 0
unfolding four_at
four_read s rest at e = rw e (sym (four_drop at s 0 ∙ ap (four_at s) (omega arith)))

pub two_written : (n : ℕ) → n < 65536 → two_bytes n ≡ n / 256 % 256 ∷ n % 256 ∷ []
unfolding two_bytes
two_written n h = rw (mod-eq_of_lt {n = n / 256} {m = 256} (omega arith))

pub four_written : (n : ℕ) → n < 4294967296 → four_bytes n ≡ n / 16777216 % 256 ∷ n / 65536 % 256 ∷ n / 256 % 256 ∷ n % 256 ∷ []
unfolding four_bytes
four_written n h = rw (mod-eq_of_lt {n = n / 16777216} {m = 256} (omega arith))

-- 32 bits, as a signed number
signed_bits : (n : ℕ) → n < 4294967296 → to_z w32 n ≡ signed_of 32 n
signed_bits n h = go (ltb n 2147483648) refl
  where
    go : (b : Bool) → ltb n 2147483648 ≡ b → to_z w32 n ≡ signed_of 32 n
    go true e = rw e (sym (signed_low n (ltb-true n 2147483648 e)))
    go false e = let g = ltb-false n 2147483648 e in rw e (ap negsuc (omega arith) ∙ sym (signed_high n g ∙ high_is n h))

-- four bytes less 2^32, in 64 bits
pub less_fits : (n : ℕ) → n < 4294967296 → SFits w64 (to_z w64 n -ℤ pos 4294967296)
less_fits n h = rw (to_z_pos w64 {n = n} (omega arith), high_is n h) (record { sfits = omega arith })

-- the value of a number of four bytes
pub value_read : (s : List ℕ) (at n : ℕ) (z y : ℤ) → n ≡ four_at s at → n < 4294967296 → z ≡ to_z w32 n → y ≡ to_z w32 (of_z w32 z)
    → (to_z w64 (of_z w64 y) ≡ value_at s at) × (mag (to_z w64 (of_z w64 y)) < 2147483648)
unfolding value_at
value_read s at n z y e h f g =
    let is : z ≡ signed_of 32 n = f ∙ signed_bits n h in
    let small : mag z < 2147483648 = rw is (mag_signed n h) in
    rw (g, to_z-of_z {w = w32} {z = z} (record { sfits = small }), back {z = z} (omega (arith, small))) (is ∙ ap (signed_of 32) e, small)

-- the pattern of a value
pub pattern_is : (z : ℤ) → mag z < 2147483648 → of_z w32 (to_z w32 (of_z w32 (to_z w64 (of_z w64 z)))) ≡ mod_z z 4294967296
unfolding mod_z
pattern_is z h = rw (back {z = z} (omega arith), to_z-of_z {w = w32} {z = z} (record { sfits = h })) (bits z h)
  where
    bits : (y : ℤ) → mag y < 2147483648 → of_z w32 y ≡ mod_z y 4294967296
    bits (pos n) l = sym (mod-eq_of_lt {n = n} {m = 4294967296} (omega arith))
    bits (negsuc n) l = rw (mod-eq_of_lt {n = n} {m = 4294967296} (omega arith)) refl

-- a value's bytes are those of its pattern
pub put_value : (s last : List ℕ) (z : ℤ) (n : ℕ) → mag z < 2147483648 → n ≡ mod_z (to_z w64 (of_z w64 z)) 4294967296 → last ≡ four_bytes n ++ drop 4 s → last ≡ value_bytes z ++ drop 4 s
unfolding value_bytes
put_value s last z n h e f = f ∙ ap (λ (m : ℕ). four_bytes m ++ drop 4 s) (e ∙ ap (λ (y : ℤ). mod_z y 4294967296) (back {z = z} (omega arith)))

-- ── fields ───────────────────────────────────────────────────────────────────────────────────

pub field_short : (s : List ℕ) (at : ℕ) → length s < at + 3 → field_at s at ≡ None
unfolding field_at
field_short s at h = simp (lt-ltb (length s) (at + 3) h)

pub field_cut : (s : List ℕ) (at len : ℕ) → len ≡ two_at s (at + 1) → at + 3 ≤ length s → length s < at + 3 + len → field_at s at ≡ None
unfolding field_at
field_cut s at len e h g = simp (le-ltb (length s) (at + 3) h, lt-ltb (length s) (at + 3 + two_at s (at + 1)) (rw e at g))

pub field_whole : (s : List ℕ) (at len : ℕ) → len ≡ two_at s (at + 1) → at + 3 ≤ length s → at + 3 + len ≤ length s → Some (record { tag = get_or s at 0; start = at + 3; len = len }) ≡ field_at s at
unfolding field_at
field_whole s at len e h g = rw e (simp (le-ltb (length s) (at + 3) h, le-ltb (length s) (at + 3 + two_at s (at + 1)) (rw e at g)))

pub part_bytes : (s : List ℕ) (start len : ℕ) → take (start + len - start) (drop start s) ≡ stretch s start len
unfolding stretch
part_bytes s start len = rw (add-sub_cancel_left start len)
