-- Shifts and masks as sums and differences of powers of two.
-- Assumes nothing.
use mathlib.Core.Path.{◌≡◌, sym, ap, ap₂, ◌∙◌, subst}
use mathlib.Core.Bool.{Bool, true, false, ◌&&◌}
use mathlib.Core.List.{List}
use Prim.Native.Nat.{ℕ, ◌+◌, ◌-◌, ◌*◌, ◌/◌, ◌%◌, ◌^◌, ◌≤◌, ◌<◌}
use native.Mathlib.Nat.{mod-lt, mod-eq_of_lt, one-mul, add-mul, div-eq_of_lt}
use native.Mathlib.Numerals.{add-one}
use native.Mathlib.Omega.{arith}
use lib.Dec.{eqb}
use lib.ListN.{length, drop, get_or, drop_of_length-le}
use lib.Seq.{drop-cons}
use lib.Pow.{pow_pos, pow-lt, pow-add, pow_mono, split, ones_split, shr_lt}
use lib.Bits.{bit_or, bit_and, or_shifted_r, and_block, and_mask, and_high}
use borrow.Author.Tests.{eqb-true, ne_eqb}
use Rattle.model.specs.Cycles.{has, is_order}

-- 1 << k, below 64 bits
shl_one : (k : ℕ) → k < 64 → (1 * 2 ^ k) % 2 ^ 64 ≡ 2 ^ k
shl_one k h = ap (λ (x : ℕ). x % 2 ^ 64) (one-mul (2 ^ k)) ∙ mod-eq_of_lt (pow-lt h)

pub set_form : (m k : ℕ) → k < 64 → m < 2 ^ k → bit_or m ((1 * 2 ^ k) % 2 ^ 64) ≡ m + 2 ^ k
set_form m k h l =
    ap (bit_or m) (shl_one k h ∙ sym (one-mul (2 ^ k)))
    ∙ or_shifted_r 1 k m l
    ∙ omega (arith, one-mul (2 ^ k))

pub test_form : (m k : ℕ) → eqb (bit_and (m / 2 ^ k) 1) 1 ≡ has m k
unfolding has
test_form m k = ap (λ (x : ℕ). eqb x 1) (and_mask (m / 2 ^ k) 1)

-- ── clearing ─────────────────────────────────────────────────────────────────────────────────

-- the mask that clears bit k, as two runs of digits
mask_split : (j k : ℕ) → (2 ^ (j + 1 + k) - 1) - 2 ^ k ≡ (2 ^ (j + 1) - 2) * 2 ^ k + (2 ^ k - 1)
mask_split j k =
    let a : ℕ = 2 ^ (j + 1) in
    let b : ℕ = a - 2 in
    let p : ℕ = 2 ^ k in
    let e : a ≡ 2 ^ j * 2 = pow-add 2 j 1 in
    let g : b + 1 ≡ a - 1 = omega (arith, e, pow_pos j) in
    let d : (b + 1) * p ≡ b * p + p = add-mul b 1 p ∙ ap (λ (x : ℕ). b * p + x) (one-mul p) in
    let f : (a - 1) * p ≡ b * p + p = ap (λ (x : ℕ). x * p) (sym g) ∙ d in
    ap (λ (x : ℕ). x - p) (ones_split (j + 1) k) ∙ omega (arith, f, pow_pos k)

and_low : (q j : ℕ) → q < 2 ^ (j + 1) → bit_and q (2 ^ (j + 1) - 2) ≡ q / 2 * 2
and_low q j h = and_high q j 1 ∙ ap (λ (x : ℕ). x * 2) (mod-eq_of_lt (shr_lt j 1 h))

-- a number whose bit k is set, less that bit
less_bit : (m k : ℕ) → m / 2 ^ k % 2 ≡ 1 → m / 2 ^ k / 2 * 2 * 2 ^ k + m % 2 ^ k ≡ m - 2 ^ k
less_bit m k e =
    let q : ℕ = m / 2 ^ k in
    let p : ℕ = 2 ^ k in
    let odd : q ≡ q / 2 * 2 + 1 = omega (arith, e) in
    let d : (q / 2 * 2 + 1) * p ≡ q / 2 * 2 * p + p = add-mul (q / 2 * 2) 1 p ∙ ap (λ (x : ℕ). q / 2 * 2 * p + x) (one-mul p) in
    let f : q * p ≡ q / 2 * 2 * p + p = ap (λ (x : ℕ). x * p) odd ∙ d in
    omega (arith, f, split m k)

clear_at : (m j k : ℕ) → m < 2 ^ (j + 1 + k) → m / 2 ^ k % 2 ≡ 1 → bit_and m ((2 ^ (j + 1 + k) - 1) - 2 ^ k) ≡ m - 2 ^ k
clear_at m j k h e =
    ap₂ bit_and (sym (split m k)) (mask_split j k)
    ∙ and_block k (m / 2 ^ k) (2 ^ (j + 1) - 2) (m % 2 ^ k) (2 ^ k - 1) (mod-lt m (pow_pos k)) (omega (arith, pow_pos k))
    ∙ ap₂ (λ (x y : ℕ). x * 2 ^ k + y) (and_low (m / 2 ^ k) j (shr_lt (j + 1) k h)) (and_mask (m % 2 ^ k) k ∙ mod-eq_of_lt (mod-lt m (pow_pos k)))
    ∙ less_bit m k e

pub clear_form : (m k : ℕ) → k < 64 → m < 2 ^ 64 → has m k ≡ true → bit_and m (18446744073709551615 - (1 * 2 ^ k) % 2 ^ 64) ≡ m - 2 ^ k
unfolding has
clear_form m k h g b =
    let e : 64 ≡ 63 - k + 1 + k = omega arith in
    ap (λ (x : ℕ). bit_and m (18446744073709551615 - x)) (shl_one k h)
    ∙ ap (λ (x : ℕ). bit_and m ((2 ^ x - 1) - 2 ^ k)) e
    ∙ clear_at m (63 - k) k (subst (λ (x : ℕ). m < 2 ^ x) e g) (eqb-true (m / 2 ^ k % 2) 1 b)

-- ── one turn of the order check ──────────────────────────────────────────────────────────────

module _ (m : ℕ) (order : List ℕ) (i : ℕ) (h : i < length order) where
  turn : is_order m (drop i order) ≡ (has m (get_or order i 0) && is_order (m - 2 ^ get_or order i 0) (drop (i + 1) order))
  unfolding is_order
  turn = rw (add-one, drop-cons order i 0)

  pub turn_no : has m (get_or order i 0) ≡ false → is_order m (drop i order) ≡ false
  turn_no e = turn ∙ ap (λ (b : Bool). b && is_order (m - 2 ^ get_or order i 0) (drop (i + 1) order)) e

  pub turn_yes : has m (get_or order i 0) ≡ true → is_order m (drop i order) ≡ is_order (m - 2 ^ get_or order i 0) (drop (i + 1) order)
  turn_yes e = turn ∙ ap (λ (b : Bool). b && is_order (m - 2 ^ get_or order i 0) (drop (i + 1) order)) e

  pub turn_high : m < 2 ^ 64 → 64 ≤ get_or order i 0 → is_order m (drop i order) ≡ false
  turn_high l g = turn_no (high m (get_or order i 0) l g)
    where
      high : (a k : ℕ) → a < 2 ^ 64 → 64 ≤ k → has a k ≡ false
      high a k b c = unfold has in ne_eqb (a / 2 ^ k % 2) 1 (λ e. (let z : a / 2 ^ k ≡ 0 = div-eq_of_lt (omega (arith, b, pow_mono c)) in omega (arith, e, z)))

pub turn_end : (m : ℕ) (order : List ℕ) (i : ℕ) → length order ≤ i → is_order m (drop i order) ≡ eqb m 0
unfolding is_order
turn_end m order i h = ap (is_order m) (drop_of_length-le order h)
