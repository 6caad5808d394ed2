-- One turn of each loop, and what the stores come to.
-- Assumes nothing.
use Prim.Native.Nat.{ℕ, zero, suc, ◌+◌, ◌-◌, ◌*◌, ◌/◌, ◌%◌, ◌≤◌, ◌<◌}
use mathlib.Core.Path.{◌≡◌, refl, sym, ap, ap₂, ◌∙◌}
use mathlib.Core.Bool.{Bool, true, false, ◌&&◌}
use mathlib.Core.List.{List, [], ◌∷◌, ◌++◌, map, append_assoc, append-nil}
use native.Mathlib.Omega.{arith}
use native.Mathlib.Nat.{add-sub_cancel_left}
use native.Mathlib.Numerals.{add-one}
use lib.Dec.{eqb, ltb}
use lib.IntN.{ℤ}
use lib.ListN.{length, get_or, take, drop, set, length-drop, drop_of_length-le}
use lib.Seq.{drop-drop, take_at, drop_at, take_all}
use borrow.Author.Tests.{ltb-true, ltb-false, lt-leb, le-leb, ne_eqb, eq-eqb}
use Rattle.model.specs.declared.Ty.{Ty}
use Rattle.model.specs.Bytes.{two_at, two_bytes, value_at, value_bytes}
use Rattle.model.specs.Values.{within}
use Rattle.model.specs.Expressions.{type_at}
use Rattle.model.specs.Network.{Variable, box, fresh, vars_of}
use Rattle.model.specs.NetworkFile.{every, tabulate, variable_start, variable_of, box_of}
use Rattle.model.specs.States.{token_at, read_tokens, token_fits, tokens_fit, tokens_in, token_field, all_zero, room_fits, wire_fits, values_fit, values_bytes, own_bytes}
use Rattle.model.proofs.Decoded.{length-tabulate}
use Rattle.octets.proofs.Laws.{value_drop}
use Rattle.queues.specs.Segments.{mid, put_mid}
use Rattle.queues.proofs.Segments.{part_put}
use Rattle.queues.proofs.Queues.{length-values}
use Rattle.tokens.specs.Parts.{field_bytes}
use Rattle.tokens.proofs.Every.{every_first}
use Rattle.std.proofs.Common.{◌≢◌, min}
use Rattle.std.specs.Bool.{MatchBool}
use Rattle.std.specs.List.{AllWithin, HoldsAt}

-- no test both holds and fails
pub both : {A : Type 0} {b : Bool} → b ≡ true → b ≡ false → A
both e f = let g : true ≡ false = sym e ∙ f in absurd (cc)

-- ── tokens ───────────────────────────────────────────────────────────────────────────────────

-- each of k tokens by its number
pub tokens_every : (t : Ty) (k : ℕ) (s : List ℕ) → tokens_fit t (read_tokens k s) ≡ every k (λ i. token_fits t (token_at (drop (5 * i) s)))
unfolding read_tokens tokens_fit every
tokens_every t zero s = refl
tokens_every t (suc k) s =
    let e : (i : ℕ) → drop (5 * i) (drop 5 s) ≡ drop (5 * suc i) s = λ i. drop-drop (5 * i) 5 s ∙ ap (λ (n : ℕ). drop n s) (omega arith) in
    ap (λ (b : Bool). token_fits t (token_at s) && b) (tokens_every t k (drop 5 s) ∙ (λ j. every k (λ i. token_fits t (token_at (e i j)))))
    ∙ sym (every_first k (λ i. token_fits t (token_at (drop (5 * i) s))))

-- ── a field of the token file ────────────────────────────────────────────────────────────────

module _ (t : Ty) (tag : ℕ) (b : List ℕ) where
  pub field_tag : (tag ≡ 32 → ⊥) → token_field t tag b ≡ false
  unfolding token_field
  field_tag h = rw (ne_eqb tag 32 h)

  pub field_length : tag ≡ 32 → (length b % 5 ≡ 0 → ⊥) → token_field t tag b ≡ false
  unfolding token_field
  field_length e h = rw (eq-eqb tag 32 e, ne_eqb (length b % 5) 0 h)

  pub field_tokens : tag ≡ 32 → length b % 5 ≡ 0 → token_field t tag b ≡ tokens_fit t (read_tokens (length b / 5) b)
  unfolding token_field tokens_in
  field_tokens e f = rw (eq-eqb tag 32 e, eq-eqb (length b % 5) 0 f)

-- ── zeros ────────────────────────────────────────────────────────────────────────────────────

zeros : (s : List ℕ) → ((k : ℕ) → k < length s → get_or s k 0 ≡ 0) → all_zero s ≡ true
unfolding all_zero
zeros [] h = refl
zeros (x ∷ s) h = rw (h 0 (omega arith)) (zeros s (λ k l. h (suc k) (omega arith)))

other : (s : List ℕ) (k : ℕ) → k < length s → get_or s k 0 ≢ 0 → all_zero s ≡ false
unfolding all_zero
other [] k l h = absurd (omega arith)
other (x ∷ s) zero l h = rw (ne_eqb x 0 h)
other (x ∷ s) (suc k) l h = rw (other s k (omega arith) h) (and_false (eqb x 0))
  where
    and_false : (b : Bool) → (b && false) ≡ false
    and_false true = refl
    and_false false = refl

-- the answer of `all` over the bytes
pub all_zeros : (s : List ℕ) (r : Bool) → MatchBool r (AllWithin (λ x. x ≡ 0) s 0 (length s)) ((k : ℕ) × (k < length s) × HoldsAt (λ x. x ≢ 0) s k) → r ≡ all_zero s
all_zeros s true h = sym (zeros s (λ k l. h k 0 (omega arith) l))
all_zeros s false (k, l, h) = sym (other s k l (h 0))

-- what is left from an offset on, which may lie past the end
pub left_from : (s : List ℕ) (from n : ℕ) → n ≡ min from (length s) → take (length s - n) (drop n s) ≡ drop from s
left_from s from n e = take_all (length s - n) (drop n s) (simp length-drop (omega arith)) ∙ by_end (ltb (length s) from) refl
  where
    by_end : (b : Bool) → ltb (length s) from ≡ b → drop n s ≡ drop from s
    by_end true h = let l = ltb-true (length s) from h in drop_of_length-le s {i = n} (omega arith) ∙ sym (drop_of_length-le s {i = from} (omega arith))
    by_end false h = let l = ltb-false (length s) from h in ap (λ (k : ℕ). drop k s) (omega arith)

-- ── a room ───────────────────────────────────────────────────────────────────────────────────

module _ (t : Ty) (room k : ℕ) (s : List ℕ) where
  pub room-full : room < k → room_fits t room k s ≡ false
  unfolding room_fits
  room-full h = rw (lt-leb k room h)

  pub room-wrong : k ≤ room → tokens_fit t (read_tokens k s) ≡ false → room_fits t room k s ≡ false
  unfolding room_fits
  room-wrong h e = rw (le-leb k room h, e)

  pub room-right : k ≤ room → tokens_fit t (read_tokens k s) ≡ true → room_fits t room k s ≡ all_zero (drop (5 * k) s)
  unfolding room_fits
  room-right h e = rw (le-leb k room h, e)

-- the part from a on
pub part_is : (s : List ℕ) (a n : ℕ) → n ≡ length s → take (n - a) (drop a s) ≡ drop a s
part_is s a n e = take_all (n - a) (drop a s) (simp length-drop (omega arith))

pub wire_is : (t : Ty) (capacity k : ℕ) (s : List ℕ) (r : Bool) → k ≡ get_or s 0 0 → r ≡ room_fits t capacity k (take (length s - 1) (drop 1 s)) → r ≡ wire_fits (record { ty = t; capacity = capacity }) s
unfolding wire_fits
wire_is t capacity k s r e f = f ∙ ap₂ (room_fits t capacity) e (part_is s 1 (length s) refl)

pub output_is : (t : Ty) (room k : ℕ) (s : List ℕ) (r : Bool) → k ≡ two_at s 0 → r ≡ room_fits t room k (take (length s - 2) (drop 2 s)) → r ≡ room_fits t room (two_at s 0) (drop 2 s)
output_is t room k s r e f = f ∙ ap₂ (room_fits t room) e (part_is s 2 (length s) refl)

-- ── a box's variables ────────────────────────────────────────────────────────────────────────

-- f j, f (j + 1), .., n of them
abbrev pub on_from : {A : Type 0} → (ℕ → A) → ℕ → ℕ → List A
on_from f n j = tabulate n (λ k. f (k + j))

-- each of n variables by its number
pub values_every : (n : ℕ) (v : ℕ → Variable) (s : List ℕ) → values_fit (tabulate n v) s ≡ every n (λ j. within (v j).ty (value_at s (4 * j)))
unfolding values_fit tabulate every
values_every zero v s = refl
values_every (suc n) v s =
    let e : (j : ℕ) → value_at (drop 4 s) (4 * j) ≡ value_at s (4 * suc j) = λ j. value_drop 4 s (4 * j) ∙ ap (value_at s) (omega arith) in
    ap (λ (b : Bool). within (v 0).ty (value_at s 0) && b) (values_every n (λ k. v (suc k)) (drop 4 s) ∙ (λ i. every n (λ j. within (v (suc j)).ty (e j i))))
    ∙ sym (every_first n (λ j. within (v j).ty (value_at s (4 * j))))

pub values_are : (b s : List ℕ) (n : ℕ) → n ≡ get_or b 2 0 → values_fit (box_of b).vars s ≡ every n (λ j. within (type_at b (variable_start b j)) (value_at s (4 * j)))
unfolding box_of variable_of
values_are b s n e = values_every (get_or b 2 0) (variable_of b) s ∙ ap (λ (k : ℕ). every k (λ j. within (type_at b (variable_start b j)) (value_at s (4 * j)))) (sym e)

-- ── a load ───────────────────────────────────────────────────────────────────────────────────

pub tabulate_snoc : {A : Type 0} (n : ℕ) (f : ℕ → A) → tabulate (suc n) f ≡ tabulate n f ++ (f n ∷ [])
unfolding tabulate
tabulate_snoc zero f = refl
tabulate_snoc (suc n) f = ap (λ l. f 0 ∷ l) (tabulate_snoc n (λ k. f (suc k)))

pub map-tabulate : {A B : Type 0} (g : A → B) (n : ℕ) (f : ℕ → A) → map g (tabulate n f) ≡ tabulate n (λ k. g (f k))
unfolding tabulate
map-tabulate g zero f = refl
map-tabulate g (suc n) f = ap (λ l. g (f 0) ∷ l) (map-tabulate g n (λ k. f (suc k)))

pub values_snoc : (zs : List ℤ) (z : ℤ) → values_bytes (zs ++ (z ∷ [])) ≡ values_bytes zs ++ value_bytes z
unfolding values_bytes
values_snoc [] z = append-nil (value_bytes z)
values_snoc (y ∷ zs) z = ap (λ (l : List ℕ). value_bytes y ++ l) (values_snoc zs z) ∙ sym (append_assoc (value_bytes y) (values_bytes zs) (value_bytes z))

-- the initial value of variable j
abbrev pub initial_of : List ℕ → ℕ → ℤ
initial_of b j = value_at b (variable_start b j + 2)

-- the first j written over s
abbrev pub written : List ℕ → List ℕ → ℕ → List ℕ
written b s j = values_bytes (tabulate j (initial_of b)) ++ drop (4 * j) s

pub load_none : (b s : List ℕ) → s ≡ written b s 0
unfolding values_bytes tabulate
load_none b s = refl

pub load_turn : (b s part : List ℕ) (j : ℕ) (z : ℤ) → part ≡ written b s j → z ≡ initial_of b j → put_mid (4 * j) 4 part (value_bytes z) ≡ written b s (j + 1)
load_turn b s part j z e f =
    let a : List ℕ = values_bytes (tabulate j (initial_of b)) in
    let l : length a ≡ 4 * j = length-values (tabulate j (initial_of b)) ∙ ap (λ (n : ℕ). 4 * n) (length-tabulate j (initial_of b)) in
    let m : 4 * j + 4 ≡ 4 * (j + 1) = omega arith in
    rw (e, f, take_at a (drop (4 * j) s) (4 * j) l, drop_at a (drop (4 * j) s) (4 * j) l, drop-drop 4 (4 * j) s, m, add-one j, tabulate_snoc j (initial_of b), values_snoc (tabulate j (initial_of b)) (initial_of b j))
    (sym (append_assoc a (value_bytes (initial_of b j)) (drop (4 * suc j) s)))

pub load_done : (b s part : List ℕ) (j : ℕ) → part ≡ written b s j → j ≡ get_or b 2 0 → length s ≡ 4 * get_or b 2 0 → part ≡ own_bytes (box (box_of b)) (fresh (box (box_of b)))
unfolding own_bytes fresh vars_of box_of variable_of
load_done b s part j e f l =
    e ∙ ap (λ (k : ℕ). written b s k) f ∙ ap (λ (x : List ℕ). values_bytes (tabulate (get_or b 2 0) (initial_of b)) ++ x) (drop_of_length-le s {i = 4 * get_or b 2 0} (omega arith))
    ∙ append-nil (values_bytes (tabulate (get_or b 2 0) (initial_of b))) ∙ ap values_bytes (sym (map-tabulate (λ (v : Variable). v.initial) (get_or b 2 0) (variable_of b)))

-- ── a field of the output file ───────────────────────────────────────────────────────────────

pub head_stores : (out two : List ℕ) (n : ℕ) → 3 ≤ length out → two ≡ two_bytes n ++ drop 2 (mid 1 2 (set out 0 33)) → put_mid 1 2 (set out 0 33) two ≡ (33 ∷ two_bytes n) ++ drop 3 out
head_stores [] two n h f = absurd (omega arith)
head_stores (x ∷ []) two n h f = absurd (omega arith)
head_stores (x ∷ y ∷ []) two n h f = absurd (omega arith)
head_stores (x ∷ y ∷ z ∷ out) two n h f = part_put (33 ∷ y ∷ z ∷ out) (two_bytes n) two 1 2 2 refl f

pub field_stores : (part out head last : List ℕ) (k : ℕ) → k ≡ two_at part 0 → head ≡ (33 ∷ two_bytes (5 * k)) ++ drop 3 out → last ≡ mid 2 (2 + 5 * k - 2) part →
    put_mid 3 (3 + 5 * k - 3) head last ≡ field_bytes part ++ drop (3 + 5 * two_at part 0) out
unfolding field_bytes two_bytes
field_stores part out head last k e f g =
    let n : ℕ = 5 * k in
    let h : List ℕ = 33 ∷ n / 256 ∷ n % 256 ∷ [] in
    let q : last ≡ mid 2 n part = g ∙ ap (λ (j : ℕ). mid 2 j part) (add-sub_cancel_left 2 n) in
    ap (λ (l : List ℕ). put_mid 3 (3 + n - 3) l last) f
    ∙ ap₂ (λ (j : ℕ) (l : List ℕ). h ++ (l ++ drop j (drop 3 out))) (add-sub_cancel_left 3 n) q
    ∙ ap (λ (l : List ℕ). h ++ (mid 2 n part ++ l)) (drop-drop n 3 out) ∙ ap (λ (j : ℕ). field_bytes_of part (5 * j) ++ drop (3 + 5 * j) out) e
  where
    field_bytes_of : List ℕ → ℕ → List ℕ
    field_bytes_of part n = 33 ∷ (two_bytes n ++ take n (drop 2 part))
