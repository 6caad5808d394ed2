-- Counts that stop at 2. Assumes nothing.
use Prim.Native.Nat.{ℕ, zero, suc, ◌+◌, ◌≤◌, ◌<◌, min}
use mathlib.Core.Path.{◌≡◌, refl, ap, ◌∙◌, sym, subst}
use mathlib.Core.List.{List, [], ◌∷◌, ◌++◌}
use mathlib.Core.Bool.{Bool, true, false, cond}
use lib.ListN.{length, get_or, drop, length-set, drop_of_length-le, replicate, get_or-replicate, length-replicate}
use lib.Seq.{drop-cons, get_or-set_same, get_or-set_other}
use lib.Dec.{ltb, eqb}
use borrow.Author.Tests.{ne_eqb, eqb-true, eqb-false, ltb-true, ltb-false}
use native.Mathlib.Numerals.{add-one}
use native.Mathlib.Nat.{zero-add}
use native.Mathlib.Omega.{arith}
use Rattle.model.specs.NetworkFile.{hit, count, lowest_from}
use Rattle.std.specs.Prelude.{Option, Some, None}
use Rattle.std.specs.Option.{MatchOption, unwrap_or}
use Rattle.ports.specs.Ports.{ports_at, bump, touched, tally_of}

pub length-touched : (t : List ℕ) (w : ℕ) → length (touched t w) ≡ length t
unfolding touched
length-touched t w = length-set t w (bump (get_or t w 0))

-- what is left to tally, a turn at a time
pub tally_more : (t ws : List ℕ) (i : ℕ) → i < length ws → tally_of t (drop i ws) ≡ tally_of (touched t (get_or ws i 0)) (drop (i + 1) ws)
unfolding tally_of
tally_more t ws i h = rw (add-one, drop-cons ws i 0 h)

pub tally_end : (t ws : List ℕ) (i : ℕ) → length ws ≤ i → tally_of t (drop i ws) ≡ t
unfolding tally_of
tally_end t ws i h = rw (drop_of_length-le ws h)

pub tally_append : (t xs ys : List ℕ) → tally_of t (xs ++ ys) ≡ tally_of (tally_of t xs) ys
unfolding tally_of
tally_append t [] ys = refl
tally_append t (x ∷ xs) ys = tally_append (touched t x) xs ys

pub ports_more : (t : List ℕ) (f : ℕ → List ℕ) (os : List ℕ) (b o : ℕ) → o ≡ get_or os b 0 → b < length os → tally_of t (ports_at f (drop b os)) ≡ tally_of (tally_of t (f o)) (ports_at f (drop (b + 1) os))
unfolding ports_at
ports_more t f os b o e h = rw (add-one, drop-cons os b 0 h, e) (tally_append t (f (get_or os b 0)) (ports_at f (drop (suc b) os)))

pub ports_end : (t : List ℕ) (f : ℕ → List ℕ) (os : List ℕ) (b : ℕ) → length os ≤ b → tally_of t (ports_at f (drop b os)) ≡ t
unfolding ports_at tally_of
ports_end t f os b h = rw (drop_of_length-le os h)

-- the lowest that fails: all before it hold
lowest_is : (f : ℕ → Bool) (w m i : ℕ) → w ≤ i → i ≤ w + m → ((k : ℕ) → w ≤ k → k < i → f k ≡ true) → (i < w + m → f i ≡ false) → i ≡ lowest_from f w m
unfolding lowest_from
lowest_is f w zero i h g before here = omega arith
lowest_is f w (suc m) i h g before here =
    by_place (λ l. lowest_is f (suc w) m i (omega arith) (omega arith) (λ k p q. before k (omega arith) q) (λ p. here (omega arith))) (ltb w i) refl
  where
    by_place : (w < i → i ≡ lowest_from f (suc w) m) → (b : Bool) → ltb w i ≡ b → i ≡ cond (f w) (lowest_from f (suc w) m) w
    by_place more true e = let l = ltb-true w i e in rw (before w (omega arith) l) (more l)
    by_place more false e =
        let l = ltb-false w i e in
        let q : i ≡ w = omega arith in
        let d : f w ≡ false = subst (λ (k : ℕ). f k ≡ false) q (here (omega arith)) in
        rw d q

-- the answer of `find` over 0 .. n, and n where there is none
pub lowest_found : (f : ℕ → Bool) (n : ℕ) (r : Option ℕ) → MatchOption r ((k : ℕ) → 0 ≤ k → k < n → f k ≡ true) (λ i. (0 ≤ i) × (i < n) × (f i ≡ false) × ((k : ℕ) → 0 ≤ k → k < i → f k ≡ true)) →
    unwrap_or r n ≡ lowest_from f 0 n
lowest_found f n None h = lowest_is f 0 n n (omega arith) (omega arith) h (λ p. absurd (omega arith))
lowest_found f n (Some i) (p, q, d, b) = lowest_is f 0 n i p (omega arith) b (λ p. d)

pub lowest_same : (f g : ℕ → Bool) (w m n : ℕ) → ((k : ℕ) → k < n → f k ≡ g k) → w + m ≤ n → lowest_from f w m ≡ lowest_from g w m
unfolding lowest_from
lowest_same f g w zero n p h = refl
lowest_same f g w (suc m) n p h = rw (p w (omega arith), lowest_same f g (suc w) m n p (omega arith))

-- a count that stops at 2 says the same of 1
capped : (n : ℕ) → eqb (min 2 n) 1 ≡ eqb n 1
capped n = go (ltb n 2) refl
  where
    go : (q : Bool) → ltb n 2 ≡ q → eqb (min 2 n) 1 ≡ eqb n 1
    go true e = let h = ltb-true n 2 e in let m : min 2 n ≡ n = omega arith in ap (λ (j : ℕ). eqb j 1) m
    go false e = let h = ltb-false n 2 e in let m : min 2 n ≡ 2 = omega arith in rw m (sym (ne_eqb n 1 (omega arith)))

bump_is : (g : ℕ) → g ≤ 2 → bump g ≡ min 2 (g + 1)
unfolding bump
bump_is g h = go (ltb g 2) refl
  where
    go : (q : Bool) → ltb g 2 ≡ q → cond (ltb g 2) (g + 1) g ≡ min 2 (g + 1)
    go true e = let k = ltb-true g 2 e in rw e (omega arith)
    go false e = let k = ltb-false g 2 e in rw e (omega arith)

tally_count : (ws t : List ℕ) (k : ℕ) → k < length t → get_or t k 0 ≤ 2 → get_or (tally_of t ws) k 0 ≡ min 2 (get_or t k 0 + count k ws)
unfolding tally_of count hit
tally_count [] t k h g = omega arith
tally_count (w ∷ ws) t k h g = go (tally_count ws (touched t w) k (omega (arith, length-touched t w))) (eqb w k) refl
  where
    go : (get_or (touched t w) k 0 ≤ 2 → get_or (tally_of (touched t w) ws) k 0 ≡ min 2 (get_or (touched t w) k 0 + count k ws)) → (q : Bool) → eqb w k ≡ q → get_or (tally_of (touched t w) ws) k 0 ≡ min 2 (get_or t k 0 + (hit (eqb w k) + count k ws))
    go ih true e =
        let d = eqb-true w k e in
        let x : get_or (touched t w) k 0 ≡ min 2 (get_or t k 0 + 1) = unfold touched in rw d (get_or-set_same t k (bump (get_or t k 0)) 0 h ∙ bump_is (get_or t k 0) g) in
        let y = ih (omega arith) in
        rw e (y ∙ omega arith)
    go ih false e =
        let d = eqb-false w k e in
        let x : get_or (touched t w) k 0 ≡ get_or t k 0 = unfold touched in get_or-set_other t w k (bump (get_or t w 0)) 0 (λ z. d (sym z)) in
        let y = ih (omega arith) in
        rw e (y ∙ omega arith)

-- counts from nothing
pub counted : (xs : List ℕ) (k : ℕ) → k < 64 → eqb (get_or (tally_of (replicate 64 0) xs) k 0) 1 ≡ eqb (count k xs) 1
counted xs k h =
    let z = get_or-replicate {A = ℕ} 64 k 0 0 h in
    let l = length-replicate {A = ℕ} 64 0 in
    ap (λ (j : ℕ). eqb j 1) (tally_count xs (replicate 64 0) k (omega arith) (omega arith) ∙ ap (λ (j : ℕ). min 2 (j + count k xs)) z)
    ∙ ap (λ (j : ℕ). eqb (min 2 j) 1) (zero-add (count k xs))
    ∙ capped (count k xs)
