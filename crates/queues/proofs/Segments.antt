-- Segments after one another, and untouched bytes behind them: reading one, and putting another in its place.
-- Assumes nothing.
use Prim.Native.Nat.{ℕ, zero, suc, ◌+◌, ◌≤◌, ◌<◌}
use mathlib.Core.Path.{◌≡◌, refl, sym, ap, ap₂, ◌∙◌}
use mathlib.Core.List.{List, [], ◌∷◌, ◌++◌, map, append_assoc, append-nil}
use native.Mathlib.Omega.{arith}
use native.Mathlib.Nat.{not-suc-le-zero, le_of_suc-le-suc, zero-add, suc-add}
use lib.ListN.{length, get_or, take, drop, set, length-append, length-take, drop_of_length-le}
use lib.Seq.{take-append_seam, drop-append_seam, take-append-add, drop-append-add}
use Rattle.model.specs.States.{cat, sum}
pub use Rattle.model.proofs.Kept.{cat-append}
use Rattle.queues.specs.Segments.{mid, put_mid, start_of}

-- ── one part ─────────────────────────────────────────────────────────────────────────────────

-- a part whose k bytes are written whole
pub part_put : (s ys last : List ℕ) (a m k : ℕ) → m ≡ k → last ≡ ys ++ drop k (mid a m s) → put_mid a m s last ≡ put_mid a k s ys
part_put s ys last a m k e f =
    let h : length (take m (drop a s)) ≤ k = simp length-take (omega arith) in
    let g : last ≡ ys = f ∙ ap (λ (l : List ℕ). ys ++ l) (drop_of_length-le (take m (drop a s)) h) ∙ append-nil ys in
    ap₂ (λ (l : List ℕ) (n : ℕ). put_mid a n s l) g e

-- a part that lies behind h
pub put_after : (h s ys : List ℕ) (n a k : ℕ) → length h ≡ n → put_mid (n + a) k (h ++ s) ys ≡ h ++ put_mid a k s ys
put_after h s ys n a k e = rw (← e, take-append-add h s a, drop-append-add h s a) (append_assoc h (take a s) (ys ++ drop k (drop a s)))

-- ── segments ─────────────────────────────────────────────────────────────────────────────────

abbrev pub lengths : List (List ℕ) → List ℕ
lengths xs = map (λ (x : List ℕ). length x) xs

pub length-cat : (xs : List (List ℕ)) → length (cat xs) ≡ sum (lengths xs)
unfolding cat sum
length-cat [] = refl
length-cat (x ∷ xs) = length-append x (cat xs) ∙ ap (λ (n : ℕ). length x + n) (length-cat xs)

-- reading segment i
pub segment_read : (xs : List (List ℕ)) (rest : List ℕ) (i : ℕ) → i < length xs → mid (start_of (lengths xs) i) (length (get_or xs i [])) (cat xs ++ rest) ≡ get_or xs i []
unfolding cat sum start_of
segment_read [] rest i h = absurd (not-suc-le-zero h)
segment_read (x ∷ xs) rest zero h = rw (append_assoc, take-append_seam)
segment_read (x ∷ xs) rest (suc i) h = rw (append_assoc, drop-append-add) (segment_read xs rest i (le_of_suc-le-suc h))

-- another one in its place
pub segment_put : (xs : List (List ℕ)) (rest : List ℕ) (i : ℕ) (ys : List ℕ) → i < length xs → put_mid (start_of (lengths xs) i) (length (get_or xs i [])) (cat xs ++ rest) ys ≡ cat (set xs i ys) ++ rest
unfolding cat sum start_of
segment_put [] rest i ys h = absurd (not-suc-le-zero h)
segment_put (x ∷ xs) rest zero ys h =
    ap (λ (l : List ℕ). ys ++ drop (length x) l) (append_assoc x (cat xs) rest) ∙ ap (λ (l : List ℕ). ys ++ l) (drop-append_seam x (cat xs ++ rest)) ∙ sym (append_assoc ys (cat xs) rest)
segment_put (x ∷ xs) rest (suc i) ys h =
    let a : ℕ = start_of (lengths xs) i in
    let k : ℕ = length (get_or xs i []) in
    ap (λ (l : List ℕ). put_mid (length x + a) k l ys) (append_assoc x (cat xs) rest) ∙ put_after x (cat xs ++ rest) ys (length x) a k refl
    ∙ ap (λ (l : List ℕ). x ++ l) (segment_put xs rest i ys (le_of_suc-le-suc h)) ∙ sym (append_assoc x (cat (set xs i ys)) rest)

-- the same, where its place, what it is and its length are told otherwise
pub read_at_lem : (xs : List (List ℕ)) (rest x : List ℕ) (i a k : ℕ) → i < length xs → start_of (lengths xs) i ≡ a → get_or xs i [] ≡ x → length x ≡ k → mid a k (cat xs ++ rest) ≡ x
read_at_lem xs rest x i a k h p e l =
    ap₂ (λ (b m : ℕ). mid b m (cat xs ++ rest)) (sym p) (sym l ∙ sym (ap (λ (y : List ℕ). length y) e)) ∙ segment_read xs rest i h ∙ e

pub put_at : (xs ys : List (List ℕ)) (rest x y : List ℕ) (i a k : ℕ) → i < length xs → start_of (lengths xs) i ≡ a → get_or xs i [] ≡ x → length x ≡ k → set xs i y ≡ ys → put_mid a k (cat xs ++ rest) y ≡ cat ys ++ rest
put_at xs ys rest x y i a k h p e l f =
    ap₂ (λ (b m : ℕ). put_mid b m (cat xs ++ rest) y) (sym p) (sym l ∙ sym (ap (λ (z : List ℕ). length z) e)) ∙ segment_put xs rest i y h ∙ ap (λ (zs : List (List ℕ)). cat zs ++ rest) f

-- it ends within the whole
pub start_in : (sizes : List ℕ) (i : ℕ) → i < length sizes → start_of sizes i + get_or sizes i 0 ≤ sum sizes
unfolding sum start_of
start_in [] i h = absurd (not-suc-le-zero h)
start_in (k ∷ ks) zero h = omega arith
start_in (k ∷ ks) (suc i) h = omega (arith, start_in ks i (le_of_suc-le-suc h))

-- ── groups of segments: the wires, then the processes ────────────────────────────────────────

pub sum_append : (a b : List ℕ) → sum (a ++ b) ≡ sum a + sum b
unfolding sum
sum_append [] b = sym (zero-add (sum b))
sum_append (x ∷ a) b = ap (λ (n : ℕ). x + n) (sum_append a b) ∙ omega arith

pub start_first : (a b : List ℕ) (i : ℕ) → i ≤ length a → start_of (a ++ b) i ≡ start_of a i
unfolding sum start_of
start_first a b zero h = refl
start_first [] b (suc i) h = absurd (not-suc-le-zero h)
start_first (x ∷ a) b (suc i) h = ap (λ (n : ℕ). x + n) (start_first a b i (le_of_suc-le-suc h))

pub start_second : (a b : List ℕ) (i : ℕ) → start_of (a ++ b) (length a + i) ≡ sum a + start_of b i
unfolding start_of
start_second a b i = ap sum (take-append-add a b i) ∙ sum_append a (take i b)

pub set_second : {A : Type 0} (a b : List A) (i : ℕ) (v : A) → set (a ++ b) (length a + i) v ≡ a ++ set b i v
set_second [] b i v = ap (λ (n : ℕ). set b n v) (zero-add i)
set_second (x ∷ a) b i v = ap (λ (n : ℕ). set (x ∷ (a ++ b)) n v) (suc-add (length a) i) ∙ ap (λ l. x ∷ l) (set_second a b i v)
