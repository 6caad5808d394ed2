-- Numbers laid into a lent array, and what is heard of a call.
-- Assumes nothing.
use mathlib.Core.Path.{◌≡◌, refl, sym, ap, ◌∙◌}
use mathlib.Core.Bool.{cond}
use mathlib.Core.List.{List, []}
use Prim.Native.Nat.{ℕ, suc, ◌+◌, ◌≤◌, ◌<◌}
use native.Mathlib.Omega.{arith}
use native.Mathlib.Decide.{dec_lt}
use lib.Dec.{leb}
use lib.ListN.{length, set, get_or, drop, drop_of_length-le}
use lib.Seq.{drop-cons}
use borrow.Author.Tests.{le-leb, lt-leb}
use Rattle.model.specs.NetworkFile.{or_refuse, by_verdict}
use Rattle.model.specs.Calls.{Answer, After, Marking, run_call}
use Rattle.bench.specs.Afters.{after}
use Rattle.bench_c.specs.declared.Numbers.{Numbers}
use Rattle.bench_c.specs.Heard.{numbers_of, listed, laid, heard, answered, says, says_marks}

-- ── the lent array ───────────────────────────────────────────────────────────────────────────

-- four numbers, one after another
pub four_laid : (n : Numbers) (old a b c d : List ℕ) → a ≡ set old 0 n.number → b ≡ set a 1 n.place → c ≡ set b 2 n.cycles → d ≡ set c 3 n.value → d ≡ laid 0 (listed n) old
unfolding laid listed
four_laid n old a b c d e f g h = rw (h, g, f, e) refl

-- of a list, what is left from number i on
module _ (xs : List ℕ) (i : ℕ) (a : List ℕ) where
  pub laid_next : (b l : List ℕ) (v : ℕ) → i < length xs → v ≡ get_or xs i 0 → b ≡ set a (4 + i) v → laid (4 + i) (drop i xs) a ≡ l → laid (4 + (i + 1)) (drop (i + 1) xs) b ≡ l
  unfolding laid
  laid_next b l v h e f g =
      let k : i + 1 ≡ suc i = omega arith in
      let j : 4 + suc i ≡ suc (4 + i) = omega arith in
      let d : laid (4 + i) (drop i xs) a ≡ laid (suc (4 + i)) (drop (suc i) xs) (set a (4 + i) (get_or xs i 0)) = ap (λ (ys : List ℕ). laid (4 + i) ys a) (drop-cons xs i 0 h) in
      rw (k, j, f, e) (sym d ∙ g)

  pub laid_all : (l : List ℕ) → length xs ≤ i → laid (4 + i) (drop i xs) a ≡ l → a ≡ l
  unfolding laid
  laid_all l h g = sym (ap (λ (ys : List ℕ). laid (4 + i) ys a) (drop_of_length-le xs h)) ∙ g

-- ── a budget ─────────────────────────────────────────────────────────────────────────────────

pub clipped : (b : ℕ) → 65535 < b → 65536 ≡ cond (leb b 65535) b 65536
clipped b h = rw (lt-leb b 65535 h) refl

pub kept : (b : ℕ) → b ≤ 65535 → b ≡ cond (leb b 65535) b 65536
kept b h = rw (le-leb b 65535 h) refl

-- over the limit any budget is refused alike
pub run_clipped : (s ts st : List ℕ) (b : ℕ) → run_call s ts st (cond (leb b 65535) b 65536) ≡ run_call s ts st b
unfolding run_call or_refuse by_verdict
run_clipped s ts st b = by_order (dec_lt 65535 b)
  where
    by_order : Dec (65535 < b) → run_call s ts st (cond (leb b 65535) b 65536) ≡ run_call s ts st b
    by_order (yes h) = rw (lt-leb b 65535 h) refl
    by_order (no g) = ap (run_call s ts st) (sym (kept b (omega (arith, g))))

-- ── what is heard ────────────────────────────────────────────────────────────────────────────

module _ (w : ℕ) (k old : List ℕ) (n : Numbers) (e : (w ≡ n.word) × (k ≡ laid 0 (listed n) old)) where
  -- no bytes are lent
  pub heard-only : {m : Numbers} → n ≡ m → heard w k [] ≡ answered m old []
  unfolding heard answered
  heard-only g = rw (e.0, e.1, g) refl

  -- an answer with the lent bytes
  pub heard-after : (a : Answer) (b : List ℕ) {y : After} → n ≡ numbers_of a → after a b ≡ y → heard w k b ≡ says y old
  unfolding heard answered says after
  heard-after a b g h = rw (e.0, e.1, g, ← h) refl

-- a marking's numbers, and the rule numbers behind them
pub heard-marks : (w : ℕ) (k old last rules : List ℕ) (n : Numbers) {a : Answer} {m : Marking} → (w ≡ n.word) × (k ≡ laid 0 (listed n) old) → last ≡ laid 4 rules k → n ≡ numbers_of a
    → record { answer = a; rules = rules } ≡ m → heard w last [] ≡ says_marks m old
unfolding heard says_marks laid listed
heard-marks w k old last rules n e f g h = rw (e.0, f, e.1, g, ← h) refl
