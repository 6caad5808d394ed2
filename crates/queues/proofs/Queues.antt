-- What is done to the bytes is done to the queue, and bytes that fit are the layout of what they hold.
-- Assumes nothing.
use Prim.Native.Nat.{ℕ, zero, suc, ◌+◌, ◌-◌, ◌*◌, ◌≤◌, ◌<◌}
use mathlib.Core.Path.{◌≡◌, refl, sym, ap, ap₂, ◌∙◌}
use mathlib.Core.List.{List, [], ◌∷◌, ◌++◌, append_assoc, append-nil}
use native.Mathlib.Omega.{arith}
use lib.IntN.{ℤ, pos}
use lib.ListN.{length, get_or, take, drop, set, replicate, length-append, replicate-append-replicate}
use lib.Seq.{take_at, drop_at}
use Rattle.model.specs.declared.Token.{Token}
use Rattle.model.specs.Bytes.{two_at, two_bytes, value_at, value_bytes}
use Rattle.model.specs.Network.{Wire, Box, Proc, box, input, output, Own, vars, taken, got, vars_of, taken_of, got_of}
use Rattle.model.specs.States.{token_bytes, tokens_bytes, room_bytes, wire_bytes, values_bytes, own_bytes, wire_size, own_size}
use Rattle.model.proofs.Decoded.{Each}
pub use Rattle.model.proofs.Kept.{length_tokens, length-room, length-values}
use Rattle.octets.proofs.Laws.{two_back, value_back, value_drop, length_two, length_value, length-token}
use Rattle.queues.specs.Segments.{put_mid}
use Rattle.queues.specs.Queues.{WireRoom, WireHeld, GotRoom, push_bytes, pop_bytes, got_bytes, moved}
use Rattle.queues.specs.Sound.{Small, Kept, of_box, of_input, of_output}
use Rattle.queues.proofs.Segments.{put_after}

-- ── lengths ──────────────────────────────────────────────────────────────────────────────────

pub tokens_rest : (t : Token) (q : List Token) → drop 5 (tokens_bytes (t ∷ q)) ≡ tokens_bytes q
unfolding tokens_bytes
tokens_rest t q = drop_at (token_bytes t) (tokens_bytes q) 5 (length-token t)

pub length_wire : (w : Wire) (q : List Token) → length q ≤ w.capacity → length (wire_bytes w q) ≡ wire_size w
unfolding wire_bytes wire_size
length_wire w q h = omega (arith, length-room w.capacity q h)

pub length-own : {p : Proc} {o : Own} → Kept p o → length (own_bytes p o) ≡ own_size p
unfolding own_bytes own_size vars_of taken_of got_of
length-own (of_box {zs = zs} e s) = length-values zs ∙ ap (λ (n : ℕ). 4 * n) e
length-own (of_input {k = k}) = length_two k
length-own (of_output {room = room} {ts = ts} h s) = length-append (two_bytes (length ts)) (room_bytes room ts) ∙ omega (arith, length_two (length ts), length-room room ts h)

-- ── a token more in a room ───────────────────────────────────────────────────────────────────

pub tokens_snoc : (q : List Token) (t : Token) → tokens_bytes (q ++ (t ∷ [])) ≡ tokens_bytes q ++ token_bytes t
unfolding tokens_bytes
tokens_snoc [] t = append-nil (token_bytes t)
tokens_snoc (x ∷ q) t = ap (λ (l : List ℕ). token_bytes x ++ l) (tokens_snoc q t) ∙ sym (append_assoc (token_bytes x) (tokens_bytes q) (token_bytes t))

pub length_snoc : (q : List Token) (t : Token) → length (q ++ (t ∷ [])) ≡ length q + 1
length_snoc q t = length-append q (t ∷ [])

pub room_push : (room : ℕ) (q : List Token) (t : Token) → length q < room → put_mid (5 * length q) 5 (room_bytes room q) (token_bytes t) ≡ room_bytes room (q ++ (t ∷ []))
unfolding room_bytes
room_push room q t h =
    let k : ℕ = (room - length (q ++ (t ∷ []))) * 5 in
    let z : List ℕ = replicate 5 0 ++ replicate k 0 in
    let n : (room - length q) * 5 ≡ 5 + k = omega (arith, length_snoc q t) in
    rw (n, ← replicate-append-replicate {A = ℕ} 5 k 0, take_at (tokens_bytes q) z (5 * length q) (length_tokens q), drop_at (tokens_bytes q) z (5 * length q) (length_tokens q), tokens_snoc, append_assoc)

pub push_wire : (w : Wire) (q : List Token) (t : Token) → length q < w.capacity → push_bytes (wire_bytes w q) t ≡ wire_bytes w (q ++ (t ∷ []))
unfolding push_bytes wire_bytes
push_wire w q t h =
    ap (λ (l : List ℕ). set l 0 (length q + 1)) (put_after (length q ∷ []) (room_bytes w.capacity q) (token_bytes t) 1 (5 * length q) 5 refl)
    ∙ ap₂ (λ (n : ℕ) (l : List ℕ). n ∷ l) (sym (length_snoc q t)) (room_push w.capacity q t h)

pub push_room : (w : Wire) (q : List Token) → length q < w.capacity → w.capacity ≤ 64 → WireRoom (wire_bytes w q)
unfolding wire_bytes
push_room w q h g = record { room = omega (arith, length-room w.capacity q (omega arith)); small = omega arith }

pub push_output : (w room : ℕ) (ts : List Token) (t : Token) → length ts < room → got_bytes (own_bytes (output w room) (got ts)) t ≡ own_bytes (output w room) (got (ts ++ (t ∷ [])))
unfolding got_bytes own_bytes got_of
push_output w room ts t h =
    let r : List ℕ = room_bytes room ts in
    let n : two_at (two_bytes (length ts) ++ r) 0 ≡ length ts = two_back (length ts) r in
    let m : put_mid (2 + 5 * length ts) 5 (two_bytes (length ts) ++ r) (token_bytes t) ≡ two_bytes (length ts) ++ room_bytes room (ts ++ (t ∷ [])) =
    put_after (two_bytes (length ts)) r (token_bytes t) 2 (5 * length ts) 5 (length_two (length ts)) ∙ ap (λ (l : List ℕ). two_bytes (length ts) ++ l) (room_push room ts t h) in
    ap (λ (k : ℕ). two_bytes (k + 1) ++ drop 2 (put_mid (2 + 5 * k) 5 (two_bytes (length ts) ++ r) (token_bytes t))) n
    ∙ ap₂ (λ (k : ℕ) (l : List ℕ). two_bytes k ++ l) (sym (length_snoc ts t)) (ap (λ (l : List ℕ). drop 2 l) m ∙ drop_at (two_bytes (length ts)) (room_bytes room (ts ++ (t ∷ []))) 2 (length_two (length ts)))

pub got-room : (w room : ℕ) (ts : List Token) → length ts < room → room ≤ 1000 → GotRoom (own_bytes (output w room) (got ts))
unfolding own_bytes got_of
got-room w room ts h g =
    let n = two_back (length ts) (room_bytes room ts) in
    let l = length-append (two_bytes (length ts)) (room_bytes room ts) in
    record { room = omega (arith, length_two (length ts), length-room room ts (omega arith)); small = omega arith }

-- ── the oldest token away ────────────────────────────────────────────────────────────────────

pub room_pop : (room : ℕ) (q : List Token) (t : Token) → length q < room →
    moved (take (5 * length (t ∷ q)) (room_bytes room (t ∷ q))) ++ drop (5 * length (t ∷ q)) (room_bytes room (t ∷ q)) ≡ room_bytes room q
unfolding room_bytes moved
room_pop room q t h =
    let k : ℕ = (room - length (t ∷ q)) * 5 in
    let n : (room - length q) * 5 ≡ 5 + k = omega arith in
    let d : drop 5 (tokens_bytes (t ∷ q)) ≡ tokens_bytes q = tokens_rest t q in
    let l = length_tokens (t ∷ q) in
    rw (n, ← replicate-append-replicate {A = ℕ} 5 k 0, take_at (tokens_bytes (t ∷ q)) (replicate k 0) (5 * length (t ∷ q)) l, drop_at (tokens_bytes (t ∷ q)) (replicate k 0) (5 * length (t ∷ q)) l, d)
    (append_assoc (tokens_bytes q) (replicate 5 0) (replicate k 0))

pub pop_wire : (w : Wire) (q : List Token) (t : Token) → length q < w.capacity → pop_bytes (wire_bytes w (t ∷ q)) ≡ wire_bytes w q
unfolding pop_bytes wire_bytes
pop_wire w q t h =
    let n : length (t ∷ q) - 1 ≡ length q = omega arith in
    ap₂ (λ (k : ℕ) (l : List ℕ). k ∷ l) n (room_pop w.capacity q t h)

pub pop_held : (w : Wire) (q : List Token) (t : Token) → length q < w.capacity → WireHeld (wire_bytes w (t ∷ q))
unfolding wire_bytes
pop_held w q t h = record { some = omega arith; whole = omega (arith, length-room w.capacity (t ∷ q) (omega arith)) }

-- ── counts and variables ─────────────────────────────────────────────────────────────────────

pub wire_count : (w : Wire) (q : List Token) → get_or (wire_bytes w q) 0 0 ≡ length q
unfolding wire_bytes
wire_count w q = refl

pub got_count : (w room : ℕ) (ts : List Token) → two_at (own_bytes (output w room) (got ts)) 0 ≡ length ts
unfolding own_bytes got_of
got_count w room ts = two_back (length ts) (room_bytes room ts)

pub taken_count : (w k : ℕ) (ts : List Token) → two_at (own_bytes (input w ts) (taken k)) 0 ≡ k
unfolding own_bytes taken_of two_bytes two_at
taken_count w k ts = omega arith

pub taken_put : (w k m : ℕ) (ts : List Token) → two_bytes m ++ drop 2 (own_bytes (input w ts) (taken k)) ≡ own_bytes (input w ts) (taken m)
unfolding own_bytes taken_of two_bytes
taken_put w k m ts = refl

pub var_read : (zs : List ℤ) → Each Small (pos 0) zs → (j : ℕ) (rest : List ℕ) → j < length zs → value_at (values_bytes zs ++ rest) (4 * j) ≡ get_or zs j (pos 0)
unfolding values_bytes
var_read [] s j rest h = absurd (omega arith)
var_read (z ∷ zs) s zero rest h = rw (append_assoc (value_bytes z) (values_bytes zs) rest) (value_back z (values_bytes zs ++ rest) (s 0 h).value)
var_read (z ∷ zs) s (suc j) rest h =
    let e : 4 * suc j ≡ 4 + 4 * j = omega arith in
    let r : List ℕ = values_bytes zs ++ rest in
    rw (append_assoc (value_bytes z) (values_bytes zs) rest, e)
    (sym (value_drop 4 (value_bytes z ++ r) (4 * j)) ∙ ap (λ (l : List ℕ). value_at l (4 * j)) (drop_at (value_bytes z) r 4 (length_value z)) ∙ var_read zs (λ k m. s (suc k) (omega (arith, m))) j rest (omega arith))

values_put : (zs : List ℤ) (j : ℕ) (z : ℤ) → j < length zs → put_mid (4 * j) 4 (values_bytes zs) (value_bytes z) ≡ values_bytes (set zs j z)
unfolding values_bytes
values_put [] j z h = absurd (omega arith)
values_put (y ∷ zs) zero z h = ap (λ (l : List ℕ). value_bytes z ++ l) (drop_at (value_bytes y) (values_bytes zs) 4 (length_value y))
values_put (y ∷ zs) (suc j) z h =
    let e : 4 * suc j ≡ 4 + 4 * j = omega arith in
    ap (λ (n : ℕ). put_mid n 4 (value_bytes y ++ values_bytes zs) (value_bytes z)) e
    ∙ put_after (value_bytes y) (values_bytes zs) (value_bytes z) 4 (4 * j) 4 (length_value y) ∙ ap (λ (l : List ℕ). value_bytes y ++ l) (values_put zs j z (omega arith))

pub box_var : (b : Box) (zs : List ℤ) → Each Small (pos 0) zs → (j : ℕ) → j < length zs → value_at (own_bytes (box b) (vars zs)) (4 * j) ≡ get_or zs j (pos 0)
unfolding own_bytes vars_of
box_var b zs s j h = ap (λ (l : List ℕ). value_at l (4 * j)) (sym (append-nil (values_bytes zs))) ∙ var_read zs s j [] h

pub box_put : (b : Box) (zs : List ℤ) (j : ℕ) (z : ℤ) → j < length zs → put_mid (4 * j) 4 (own_bytes (box b) (vars zs)) (value_bytes z) ≡ own_bytes (box b) (vars (set zs j z))
unfolding own_bytes vars_of
box_put b zs j z h = values_put zs j z h

-- ── at a load: nothing but zeros ─────────────────────────────────────────────────────────────

pub wire_empty : (w : Wire) → wire_bytes w [] ≡ replicate (wire_size w) 0
unfolding wire_bytes wire_size room_bytes tokens_bytes
wire_empty w = let e : 1 + 5 * w.capacity ≡ suc ((w.capacity - 0) * 5) = omega arith in rw e

pub input_empty : (w : ℕ) (ts : List Token) → own_bytes (input w ts) (taken 0) ≡ replicate (own_size (input w ts)) 0
unfolding own_bytes own_size taken_of two_bytes
input_empty w ts = refl

pub output_empty : (w room : ℕ) → own_bytes (output w room) (got []) ≡ replicate (own_size (output w room)) 0
unfolding own_bytes own_size got_of two_bytes room_bytes tokens_bytes
output_empty w room = let e : 2 + 5 * room ≡ suc (suc ((room - 0) * 5)) = omega arith in rw e

-- ── what is kept ─────────────────────────────────────────────────────────────────────────────

pub each_set : {A : Type 0} (P : A → Type 0) (d : A) (xs : List A) (i : ℕ) (x : A) → Each P d xs → P x → Each P d (set xs i x)
each_set P d [] i x h p k l = absurd (omega arith)
each_set P d (y ∷ ys) zero x h p zero l = p
each_set P d (y ∷ ys) zero x h p (suc k) l = h (suc k) l
each_set P d (y ∷ ys) (suc i) x h p zero l = h 0 (omega arith)
each_set P d (y ∷ ys) (suc i) x h p (suc k) l = each_set P d ys i x (λ j m. h (suc j) (omega (arith, m))) p k (omega arith)
