-- A test of each number below n: what `all` over a range answers.
-- Assumes nothing.
use Rattle.std.proofs.Common.{◌≡◌, ℕ, zero, suc, ◌<◌, Bool, true, false, length, refl, sym, ◌∙◌, subst, zero-add, arith}
use Rattle.std.specs.Bool.{MatchBool}
use Rattle.std.specs.List.{AllWithin, HoldsAt, range_with_len}
use Rattle.std.proofs.lemmas.List.FromFn.{length-range_with_len, get_or-range_with_len}
use Rattle.model.specs.NetworkFile.{every}
use Rattle.model.proofs.Decoded.{every_at}

every_holds : (n : ℕ) (f : ℕ → Bool) → ((k : ℕ) → k < n → f k ≡ true) → every n f ≡ true
unfolding every
every_holds zero f h = refl
every_holds (suc n) f h = rw (every_holds n f (λ k l. h k (omega arith))) (h n (omega arith))

every_fails : (n : ℕ) (f : ℕ → Bool) (k : ℕ) → k < n → f k ≡ false → every n f ≡ false
every_fails n f k l e = by_cases (every n f) refl
  where
    by_cases : (b : Bool) → every n f ≡ b → b ≡ false
    by_cases false g = refl
    by_cases true g = let h = every_at n f g k l in cc

-- the answer of `all`
pub all_every : (n : ℕ) (f : ℕ → Bool) (r : Bool) →
    MatchBool r (AllWithin (λ j. f j ≡ true) (range_with_len 0 n) 0 (length (range_with_len 0 n))) ((k : ℕ) × (k < length (range_with_len 0 n)) × HoldsAt (λ j. f j ≡ false) (range_with_len 0 n) k) → r ≡ every n f
all_every n f true h = sym (every_holds n f (λ k l. subst (λ (j : ℕ). f j ≡ true) (get_or-range_with_len 0 n k 0 l ∙ zero-add k) (h k 0 (omega arith) (omega (arith, length-range_with_len 0 n)))))
all_every n f false (k, l, h) =
    let m : k < n = omega (arith, length-range_with_len 0 n) in
    sym (every_fails n f k m (subst (λ (j : ℕ). f j ≡ false) (get_or-range_with_len 0 n k 0 m ∙ zero-add k) (h 0)))
