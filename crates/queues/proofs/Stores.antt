-- What the stores of each function come to.
-- Assumes nothing.
use Prim.Native.Nat.{ℕ, ◌+◌, ◌-◌, ◌*◌, ◌≤◌}
use mathlib.Core.Path.{◌≡◌, refl, sym, ap, ap₂, ◌∙◌}
use mathlib.Core.List.{List, [], ◌∷◌, ◌++◌, append-nil}
use native.Mathlib.Omega.{arith}
use native.Mathlib.Nat.{add-sub_cancel_left}
use lib.ListN.{length, get_or, take, drop, set, replicate, length-take, length-drop, length-append, drop_of_length-le}
use lib.Seq.{take_all, take-append_seam, drop-append_seam, get_or-drop}
use lib.IntN.{ℤ, pos}
use Rattle.model.specs.declared.Token.{Token}
use Rattle.model.specs.Bytes.{two_at, four_at, value_at, signed_of, two_bytes, value_bytes}
use Rattle.model.specs.States.{token_at, token_bytes}
use Rattle.octets.proofs.Laws.{value_drop}
use Rattle.queues.specs.Segments.{mid, put_mid}
use Rattle.queues.specs.Queues.{push_bytes, pop_bytes, got_bytes, moved}
use Rattle.queues.proofs.Segments.{part_put}

-- ── a token ──────────────────────────────────────────────────────────────────────────────────

pub token_past : (s : List ℕ) (at : ℕ) → length s ≤ at → record { tag = 0; value = pos 0 } ≡ token_at (drop at s)
unfolding token_at value_at signed_of four_at
token_past s at h = rw (drop_of_length-le s h)

pub token_is : (s : List ℕ) (at tag : ℕ) (z : ℤ) → tag ≡ get_or s at 0 → z ≡ value_at s (at + 1) → record { tag = tag; value = z } ≡ token_at (drop at s)
unfolding token_at
token_is s at tag z e f =
    let n : at + 0 ≡ at = omega arith in
    let g : tag ≡ get_or (drop at s) 0 0 = e ∙ sym (get_or-drop at s 0 0 ∙ ap (λ (k : ℕ). get_or s k 0) n) in
    let k : z ≡ value_at (drop at s) 1 = f ∙ sym (value_drop at s 1) in
    λ i. record { tag = g i; value = k i }

pub put_token : (s last : List ℕ) (t : Token) (z : ℤ) → 5 ≤ length s → z ≡ t.value → last ≡ value_bytes z ++ drop 4 (mid 1 4 (set s 0 t.tag)) → put_mid 1 4 (set s 0 t.tag) last ≡ token_bytes t ++ drop 5 s
unfolding token_bytes
put_token [] last t z h e f = absurd (omega arith)
put_token (x ∷ s) last t z h e f = part_put (t.tag ∷ s) (value_bytes z) last 1 4 4 refl f ∙ ap (λ (y : ℤ). t.tag ∷ (value_bytes y ++ drop 4 s)) e

pub put_var : (s last : List ℕ) (z y : ℤ) (a : ℕ) → y ≡ z → last ≡ value_bytes y ++ drop 4 (mid a (a + 4 - a) s) → put_mid a (a + 4 - a) s last ≡ put_mid a 4 s (value_bytes z)
put_var s last z y a e f = part_put s (value_bytes y) last a (a + 4 - a) 4 (add-sub_cancel_left a 4) f ∙ ap (λ (x : ℤ). put_mid a 4 s (value_bytes x)) e

-- ── one token more ───────────────────────────────────────────────────────────────────────────

-- a token written at an offset
token_part : (s last : List ℕ) (t : Token) (a : ℕ) → last ≡ token_bytes t ++ drop 5 (mid a (a + 5 - a) s) → put_mid a (a + 5 - a) s last ≡ put_mid a 5 s (token_bytes t)
token_part s last t a f = part_put s (token_bytes t) last a (a + 5 - a) 5 (add-sub_cancel_left a 5) f

pub push_stores : (s last : List ℕ) (t : Token) (n : ℕ) → n ≡ get_or s 0 0 → last ≡ token_bytes t ++ drop 5 (mid (1 + 5 * n) (1 + 5 * n + 5 - (1 + 5 * n)) s) →
    set (put_mid (1 + 5 * n) (1 + 5 * n + 5 - (1 + 5 * n)) s last) 0 (n + 1) ≡ push_bytes s t
unfolding push_bytes
push_stores s last t n e f =
    ap (λ (l : List ℕ). set l 0 (n + 1)) (token_part s last t (1 + 5 * n) f) ∙ ap (λ (j : ℕ). set (put_mid (1 + 5 * j) 5 s (token_bytes t)) 0 (j + 1)) e

pub got_stores : (s part last : List ℕ) (t : Token) (n : ℕ) → n ≡ two_at s 0 → part ≡ token_bytes t ++ drop 5 (mid (2 + 5 * n) (2 + 5 * n + 5 - (2 + 5 * n)) s) →
    last ≡ two_bytes (n + 1) ++ drop 2 (put_mid (2 + 5 * n) (2 + 5 * n + 5 - (2 + 5 * n)) s part) → last ≡ got_bytes s t
unfolding got_bytes
got_stores s part last t n e f g =
    g ∙ ap (λ (l : List ℕ). two_bytes (n + 1) ++ drop 2 l) (token_part s part t (2 + 5 * n) f) ∙ ap (λ (j : ℕ). two_bytes (j + 1) ++ drop 2 (put_mid (2 + 5 * j) 5 s (token_bytes t))) e

-- ── the oldest token away ────────────────────────────────────────────────────────────────────

pub pop_stores : (s last : List ℕ) (n : ℕ) → n ≡ get_or s 0 0 → last ≡ moved (mid 1 (1 + 5 * n - 1) s) → set (put_mid 1 (1 + 5 * n - 1) s last) 0 (n - 1) ≡ pop_bytes s
unfolding pop_bytes
pop_stores s last n e f =
    let k = add-sub_cancel_left 1 (5 * n) in
    ap₂ (λ (l : List ℕ) (j : ℕ). set (put_mid 1 j s l) 0 (n - 1)) (f ∙ ap (λ (j : ℕ). moved (mid 1 j s)) k) k
    ∙ ap (λ (j : ℕ). set (put_mid 1 (5 * j) s (moved (mid 1 (5 * j) s))) 0 (j - 1)) e

-- the tokens' bytes all moved, and zeros behind
pub move_whole : (s r last : List ℕ) (k : ℕ) → k + 5 ≡ length s → r ≡ take k (drop 5 s) ++ drop k s → last ≡ replicate (length (mid k (length r - k) r)) 0 → put_mid k (length r - k) r last ≡ moved s
unfolding moved
move_whole s r last k h e f =
    let p : List ℕ = drop 5 s in
    let q : List ℕ = drop k s in
    let lp : k ≡ length p = simp length-drop (omega arith) in
    let lq : length q ≡ 5 = simp length-drop (omega arith) in
    let g : r ≡ p ++ q = e ∙ ap (λ (l : List ℕ). l ++ q) (take_all k p (omega (arith, lp))) in
    let n : length r - k ≡ 5 = rw g (simp length-append (omega arith)) in
    let x : take k r ≡ p = ap₂ (λ (n : ℕ) (l : List ℕ). take n l) lp g ∙ take-append_seam p q in
    let y : drop k r ≡ q = ap₂ (λ (n : ℕ) (l : List ℕ). drop n l) lp g ∙ drop-append_seam p q in
    let five : length (take 5 q) ≡ 5 = simp length-take (omega arith) in
    let short : length q ≤ 5 = omega (arith, lq) in
    let none : drop 5 q ≡ [] = drop_of_length-le q short in
    rw (n, x, y, none, append-nil) (ap (λ (l : List ℕ). p ++ l) (f ∙ rw (n, y) (ap (λ (j : ℕ). replicate j 0) five)))
