-- Reading back: the layout of a queue gives the queue, and bytes that fit are the layout of the one queue that they hold.
-- Assumes nothing.
use Prim.Native.Nat.{ℕ, zero, suc, ◌+◌, ◌-◌, ◌*◌, ◌≤◌, ◌<◌}
use mathlib.Core.Path.{◌≡◌, refl, sym, ap, ap₂, ◌∙◌}
use mathlib.Core.Bool.{Bool, true, ◌&&◌, ◌||◌, cond}
use mathlib.Core.List.{List, [], ◌∷◌, ◌++◌, append_assoc}
use native.Mathlib.Omega.{arith}
use lib.Dec.{leb, eqb}
use lib.IntN.{pos}
use lib.Signed.{mag}
use lib.ListN.{length, get_or, take, drop, replicate, length-drop, take-append-drop}
use lib.Seq.{take_all, take-add, get_or-drop}
use borrow.Author.Tests.{leb-true, eqb-true}
use Rattle.model.specs.declared.Ty.{Ty}
use Rattle.model.specs.declared.Token.{Token}
use Rattle.model.specs.Bytes.{two_at, two_bytes, value_bytes}
use Rattle.model.specs.Values.{within, carried, eq_z}
use Rattle.model.specs.Rules.{tag_fits}
use Rattle.model.specs.Network.{Wire, Variable, Proc, box, input, output, Net, wire, vars_of, taken_of, got_of, no_token}
use Rattle.model.specs.States.{token_at, read_tokens, token_bytes, tokens_bytes, token_fits, tokens_fit, room_bytes, wire_bytes, values_bytes, own_bytes, wire_size, own_size, all_zero, room_fits, wire_fits, queue_in, values_in, own_fits, own_in}
use Rattle.model.proofs.Tests.{and_left, and_right}
use Rattle.model.proofs.Decoded.{Each, GoodType}
use Rattle.model.proofs.Kept.{token_small, token_back}
use Rattle.octets.proofs.Laws.{Octets, two_take, value_take, value_drop, value_below}
use Rattle.queues.specs.Sound.{Small, Sane, Held, Kept, of_box, of_input, of_output}

-- ── bytes ────────────────────────────────────────────────────────────────────────────────────

pub octets-drop : (k : ℕ) (s : List ℕ) → Octets s → Octets (drop k s)
octets-drop k s b i = rw (get_or-drop k s i 0) (b (k + i))

pub octets-take : (k : ℕ) (s : List ℕ) → Octets s → Octets (take k s)
octets-take zero s b i = omega arith
octets-take (suc k) [] b i = omega arith
octets-take (suc k) (x ∷ s) b zero = b 0
octets-take (suc k) (x ∷ s) b (suc i) = octets-take k s (λ j. b (suc j)) i

-- ── tokens ───────────────────────────────────────────────────────────────────────────────────

pub token-take : (s : List ℕ) → Octets s → 5 ≤ length s → token_bytes (token_at s) ≡ take 5 s
unfolding token_at token_bytes
token-take [] b h = absurd (omega arith)
token-take (x ∷ s) b h = ap (λ (l : List ℕ). x ∷ l) (ap value_bytes (sym (value_drop 1 (x ∷ s) 0)) ∙ value_take s (λ i. b (suc i)) (omega arith))

pub tokens_take : (k : ℕ) (s : List ℕ) → Octets s → 5 * k ≤ length s → tokens_bytes (read_tokens k s) ≡ take (5 * k) s
unfolding read_tokens tokens_bytes
tokens_take zero s b h = refl
tokens_take (suc k) s b h =
    let e : 5 * suc k ≡ 5 + 5 * k = omega arith in
    let g : 5 * k ≤ length (drop 5 s) = simp length-drop (omega arith) in
    ap₂ (λ (x y : List ℕ). x ++ y) (token-take s b (omega arith)) (tokens_take k (drop 5 s) (octets-drop 5 s b) g) ∙ sym (ap (λ (n : ℕ). take n s) e ∙ take-add 5 (5 * k) s)

pub length_read : (k : ℕ) (s : List ℕ) → length (read_tokens k s) ≡ k
unfolding read_tokens
length_read zero s = refl
length_read (suc k) s = ap suc (length_read k (drop 5 s))

pub fit-tag : (ty : Ty) (t : Token) → token_fits ty t ≡ true → t.tag ≤ 3
unfolding token_fits
fit-tag ty t e =
    let v : Bool = cond (eqb t.tag 1 || eqb t.tag 2) (eq_z t.value (pos 0)) (within (carried ty) t.value) in
    leb-true t.tag 3 (and_right (tag_fits ty t.tag) (leb t.tag 3) (and_left (tag_fits ty t.tag && leb t.tag 3) v e))

pub read_small : (s : List ℕ) → Octets s → mag (token_at s).value < 2147483648
unfolding token_at
read_small s b = value_below s 1 b

-- tokens read from bytes, each of a type
pub tokens_sane : (ty : Ty) (k : ℕ) (s : List ℕ) → Octets s → tokens_fit ty (read_tokens k s) ≡ true → Each Sane no_token (read_tokens k s)
unfolding read_tokens tokens_fit
tokens_sane ty zero s b e i h = absurd (omega arith)
tokens_sane ty (suc k) s b e zero h =
    let t = token_at s in
    record { tag = fit-tag ty t (and_left (token_fits ty t) (tokens_fit ty (read_tokens k (drop 5 s))) e); value = read_small s b }
tokens_sane ty (suc k) s b e (suc i) h = tokens_sane ty k (drop 5 s) (octets-drop 5 s b) (and_right (token_fits ty (token_at s)) (tokens_fit ty (read_tokens k (drop 5 s))) e) i (omega arith)

-- a token of a wire's type
pub fits_sane : (ty : Ty) → GoodType ty → (t : Token) → token_fits ty t ≡ true → Sane t
fits_sane ty g t e = record { tag = fit-tag ty t e; value = token_small ty g t e }

-- ── a room ───────────────────────────────────────────────────────────────────────────────────

pub zeros_are : (s : List ℕ) → all_zero s ≡ true → s ≡ replicate (length s) 0
unfolding all_zero
zeros_are [] e = refl
zeros_are (x ∷ s) e = ap₂ (λ (y : ℕ) (l : List ℕ). y ∷ l) (eqb-true x 0 (and_left (eqb x 0) (all_zero s) e)) (zeros_are s (and_right (eqb x 0) (all_zero s) e))

-- what a room that fits holds
module _ (ty : Ty) (room k : ℕ) (s : List ℕ) (b : Octets s) (e : room_fits ty room k s ≡ true) where
  counted : (leb k room && tokens_fit ty (read_tokens k s)) ≡ true
  unfolding room_fits
  counted = and_left (leb k room && tokens_fit ty (read_tokens k s)) (all_zero (drop (5 * k) s)) e

  pub room_count : k ≤ room
  room_count = leb-true k room (and_left (leb k room) (tokens_fit ty (read_tokens k s)) counted)

  pub room-sane : Each Sane no_token (read_tokens k s)
  room-sane = tokens_sane ty k s b (and_right (leb k room) (tokens_fit ty (read_tokens k s)) counted)

  pub room_zeros : drop (5 * k) s ≡ replicate (length (drop (5 * k) s)) 0
  unfolding room_fits
  room_zeros = zeros_are (drop (5 * k) s) (and_right (leb k room && tokens_fit ty (read_tokens k s)) (all_zero (drop (5 * k) s)) e)

  pub room_whole : length s ≡ 5 * room → room_bytes room (read_tokens k s) ≡ s
  unfolding room_bytes
  room_whole l =
      let c = room_count in
      let n : (room - length (read_tokens k s)) * 5 ≡ length (drop (5 * k) s) = omega (arith, length_read k s, length-drop (5 * k) s) in
      ap₂ (λ (x y : List ℕ). x ++ y) (tokens_take k s b (omega arith)) (ap (λ (m : ℕ). replicate m 0) n ∙ sym room_zeros) ∙ take-append-drop (5 * k) s

-- ── a wire ───────────────────────────────────────────────────────────────────────────────────

pub oldest_wire : (w : Wire) (q : List Token) (t : Token) → Sane t → token_at (drop 1 (wire_bytes w (t ∷ q))) ≡ t
unfolding wire_bytes room_bytes tokens_bytes
oldest_wire w q t h = let z : List ℕ = replicate ((w.capacity - length (t ∷ q)) * 5) 0 in rw (append_assoc (token_bytes t) (tokens_bytes q) z) (token_back t (tokens_bytes q ++ z) h.value)

pub wire_whole : (w : Wire) (s : List ℕ) → Octets s → length s ≡ wire_size w → wire_fits w s ≡ true → wire_bytes w (queue_in w s) ≡ s
unfolding wire_bytes queue_in wire_fits wire_size
wire_whole w [] b l e = absurd (omega arith)
wire_whole w (k ∷ s) b l e =
    ap₂ (λ (x : ℕ) (xs : List ℕ). x ∷ xs) (length_read k s) (room_whole w.ty w.capacity k s (λ i. b (suc i)) e (omega arith))

pub wire_held : (w : Wire) (s : List ℕ) → Octets s → wire_fits w s ≡ true → Held w (queue_in w s)
unfolding queue_in wire_fits
wire_held w s b e =
    let k : ℕ = get_or s 0 0 in
    let c = room_count w.ty w.capacity k (drop 1 s) (octets-drop 1 s b) e in
    record { fits = omega (arith, length_read k (drop 1 s)); sane = room-sane w.ty w.capacity k (drop 1 s) (octets-drop 1 s b) e }

-- ── variables ────────────────────────────────────────────────────────────────────────────────

pub values-take : (vs : List Variable) (s : List ℕ) → Octets s → 4 * length vs ≤ length s → values_bytes (values_in vs s) ≡ take (4 * length vs) s
unfolding values_in values_bytes
values-take [] s b h = refl
values-take (v ∷ vs) s b h =
    let e : 4 * suc (length vs) ≡ 4 + 4 * length vs = omega arith in
    let g : 4 * length vs ≤ length (drop 4 s) = simp length-drop (omega arith) in
    ap₂ (λ (x y : List ℕ). x ++ y) (value_take s b (omega arith)) (values-take vs (drop 4 s) (octets-drop 4 s b) g) ∙ sym (ap (λ (n : ℕ). take n s) e ∙ take-add 4 (4 * length vs) s)

pub values_small : (vs : List Variable) (s : List ℕ) → Octets s → Each Small (pos 0) (values_in vs s)
unfolding values_in
values_small [] s b i h = absurd (omega arith)
values_small (v ∷ vs) s b zero h = record { value = value_below s 0 b }
values_small (v ∷ vs) s b (suc i) h = values_small vs (drop 4 s) (octets-drop 4 s b) i (omega arith)

pub length_in : (vs : List Variable) (s : List ℕ) → length (values_in vs s) ≡ length vs
unfolding values_in
length_in [] s = refl
length_in (v ∷ vs) s = ap suc (length_in vs (drop 4 s))

-- ── what a process keeps ─────────────────────────────────────────────────────────────────────

pub own_whole : (n : Net) (counted : Bool) (p : Proc) (s : List ℕ) → Octets s → length s ≡ own_size p → own_fits n counted p s ≡ true → own_bytes p (own_in p s) ≡ s
unfolding own_bytes own_in own_fits own_size vars_of taken_of got_of
own_whole n counted (box v) s b l e = values-take v.vars s b (omega arith) ∙ take_all (4 * length v.vars) s (omega arith)
own_whole n counted (input w ts) s b l e = two_take s b (omega arith) ∙ take_all 2 s (omega arith)
own_whole n counted (output w room) s b l e =
    let k : ℕ = two_at s 0 in
    let r = room_whole (wire n w).ty room k (drop 2 s) (octets-drop 2 s b) e (length-drop 2 s ∙ omega arith) in
    ap₂ (λ (x y : List ℕ). x ++ y) (ap two_bytes (length_read k (drop 2 s)) ∙ two_take s b (omega arith)) r ∙ take-append-drop 2 s

pub own_kept : (n : Net) (counted : Bool) (p : Proc) (s : List ℕ) → Octets s → own_fits n counted p s ≡ true → Kept p (own_in p s)
unfolding own_in own_fits
own_kept n counted (box v) s b e = of_box (length_in v.vars s) (values_small v.vars s b)
own_kept n counted (input w ts) s b e = of_input
own_kept n counted (output w room) s b e =
    let k : ℕ = two_at s 0 in
    let c = room_count (wire n w).ty room k (drop 2 s) (octets-drop 2 s b) e in
    let h : length (read_tokens k (drop 2 s)) ≤ room = omega (arith, length_read k (drop 2 s)) in
    of_output h (room-sane (wire n w).ty room k (drop 2 s) (octets-drop 2 s b) e)
