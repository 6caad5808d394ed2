-- Decimal digits, and the sign.
-- Assumes nothing.
use Prim.Native.Nat.{ℕ, zero, suc, ◌+◌, ◌-◌, ◌/◌, ◌%◌, ◌≤◌, ◌<◌}
use mathlib.Core.Path.{◌≡◌, refl, sym, ap, ◌∙◌}
use mathlib.Core.Bool.{true, false}
use mathlib.Core.List.{List, [], ◌∷◌}
use native.Mathlib.Omega.{arith}
use native.Mathlib.Nat.{mod-eq_of_lt}
use lib.ListN.{length, take, drop, set, length-drop, length-set}
use lib.Seq.{take_all, set_split, drop_at, length-take-le}
use lib.IntN.{ℤ, pos, negsuc, nat_abs}
use lib.Signed.{mag, lt_z}
use mir.Syntax.{w64}
use mir.Val.{SFits, to_z, of_z}
use borrow.Author.Tests.{lt-ltb, le-ltb, ltb-true, ne_eqb}
use Rattle.model.specs.declared.Token.{Token}
use Rattle.model.specs.declared.Fault as fault
use Rattle.model.specs.declared.Ending.{Ending}
use Rattle.model.specs.declared.Ending.TheVariants.{Idle, Spent, Fault}
use Rattle.model.specs.Printing.{digits_from, decimal, signed, shown, box_part}
use mir.Facts.{to_z-of_z}
use Rattle.octets.proofs.Laws.{back}

-- ── digits ───────────────────────────────────────────────────────────────────────────────────

-- a digit more before those that are there
digit_more : (d n : ℕ) (after : List ℕ) → 0 < d → 10 ≤ n → digits_from (d - 1) (n / 10) ((48 + n % 10) ∷ after) ≡ digits_from d n after
unfolding digits_from
digit_more zero n after l h = absurd (omega arith)
digit_more (suc d) n after l h = let e : suc d - 1 ≡ d = omega arith in rw (e, le-ltb n 10 h)

-- the first one: the number has no more, or there is no place for more
digit_first : (d n : ℕ) (after : List ℕ) → (0 < d → n < 10) → digits_from d n after ≡ (48 + n % 10) ∷ after
unfolding digits_from
digit_first zero n after f = refl
digit_first (suc d) n after f = let h : n < 10 = f (omega arith) in rw (lt-ltb n 10 h, mod-eq_of_lt {n = n} {m = 10} h)

drop-set : (s : List ℕ) (i b : ℕ) → i < length s → drop i (set s i b) ≡ b ∷ drop (suc i) s
drop-set s i b h = ap (drop i) (set_split s i b h) ∙ drop_at (take i s) (b ∷ drop (suc i) s) i (length-take-le i s (omega arith))

-- an array's digits from a place on
pub digits_turn : (s : List ℕ) (i n b : ℕ) → i < length s → 0 < i → 10 ≤ n → b ≡ 48 + n % 10 → digits_from (i - 1) (n / 10) (drop (i - 1 + 1) (set s i b)) ≡ digits_from i n (drop (i + 1) s)
digits_turn s i n b h l m e =
    let f : i - 1 + 1 ≡ i = omega arith in
    let g : suc i ≡ i + 1 = omega arith in
    rw (f, drop-set s i b h, e, g) (digit_more i n (drop (i + 1) s) l m)

-- all of them, from an array of twenty
pub digits_done : (s : List ℕ) (i n b m : ℕ) → length s ≡ 20 → i < 20 → (0 < i → n < 10) → b ≡ 48 + n % 10 → digits_from i n (drop (i + 1) s) ≡ decimal m → take (20 - i) (drop i (set s i b)) ≡ decimal m
digits_done s i n b m l h f e d =
    let g : suc i ≡ i + 1 = omega arith in
    take_all (20 - i) (drop i (set s i b)) (omega (arith, length-drop i (set s i b), length-set s i b))
    ∙ drop-set s i b (omega arith)
    ∙ rw (e, g) (sym (digit_first i n (drop (i + 1) s) f) ∙ d)

-- ── the sign ─────────────────────────────────────────────────────────────────────────────────

-- a value's size, as four bytes hold it
pub abs_small : (z : ℤ) → mag z < 2147483648 → nat_abs z < 4294967296
abs_small (pos n) h = omega arith
abs_small (negsuc n) h = omega arith

-- the digits of a value's size, behind a minus for one below zero
pub minus_first : (z : ℤ) (n : ℕ) → SFits w64 z → n ≡ nat_abs (to_z w64 (of_z w64 z)) → lt_z (to_z w64 (of_z w64 z)) (pos 0) ≡ true → 45 ∷ decimal n ≡ signed z
minus_first z n f e t = let b = to_z-of_z {w = w64} f in ap (λ (j : ℕ). 45 ∷ decimal j) (rw b at e) ∙ go z (rw b at t)
  where
    go : (z : ℤ) → lt_z z (pos 0) ≡ true → 45 ∷ decimal (nat_abs z) ≡ signed z
    go (pos n) t = absurd (omega (arith, ltb-true n 0 t))
    go (negsuc n) t = unfold signed in refl

pub no_minus : (z : ℤ) (n : ℕ) → SFits w64 z → n ≡ nat_abs (to_z w64 (of_z w64 z)) → lt_z (to_z w64 (of_z w64 z)) (pos 0) ≡ false → decimal n ≡ signed z
no_minus z n f e t = let b = to_z-of_z {w = w64} f in ap decimal (rw b at e) ∙ go z (rw b at t)
  where
    go : (z : ℤ) → lt_z z (pos 0) ≡ false → decimal (nat_abs z) ≡ signed z
    go (pos n) t = unfold signed in refl
    go (negsuc n) t = let z : true ≡ false = t in absurd (let y : ◌≡◌ {A = ℕ} 0 1 = cc in omega arith)

-- ── tokens, one law a way out ────────────────────────────────────────────────────────────────

module _ (t : Token) where
  pub shown_plain : mag t.value < 2147483648 → t.tag ≡ 0 → signed (to_z w64 (of_z w64 t.value)) ≡ shown t
  unfolding shown
  shown_plain h e = rw (e, back {z = t.value} (omega arith))

  pub shown_start : t.tag ≡ 1 → 39 ∷ 60 ∷ [] ≡ shown t
  unfolding shown
  shown_start e = rw e

  pub shown_end : t.tag ≡ 2 → 39 ∷ 62 ∷ [] ≡ shown t
  unfolding shown
  shown_end e = rw e

  pub shown_data : mag t.value < 2147483648 → (t.tag ≡ 0 → ⊥) → (t.tag ≡ 1 → ⊥) → (t.tag ≡ 2 → ⊥) → 39 ∷ signed (to_z w64 (of_z w64 t.value)) ≡ shown t
  unfolding shown
  shown_data h e f g = rw (ne_eqb t.tag 0 e, ne_eqb t.tag 1 f, ne_eqb t.tag 2 g, back {z = t.value} (omega arith))

-- ── endings ──────────────────────────────────────────────────────────────────────────────────

-- no box for an ending that is no fault
pub no_box : (e : Ending) → ((x : fault.Fault) (b : ℕ) → e ≡ Fault x b → ⊥) → [] ≡ box_part e
unfolding box_part
no_box Idle f = refl
no_box Spent f = refl
no_box (Fault x b) f = absurd (f x b refl)
