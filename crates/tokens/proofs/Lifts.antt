-- What callers need beside the contracts: what an accepted box gives, and parts of a state and of a network in the model's words.
-- Assumes nothing.
use Prim.Native.Nat.{ℕ, ◌+◌, ◌*◌, ◌≤◌}
use mathlib.Core.Path.{◌≡◌, refl, sym, ap₂}
use mathlib.Core.Bool.{Bool, true}
use mathlib.Core.List.{List, ◌∷◌, ◌++◌}
use native.Mathlib.Omega.{arith}
use lib.Dec.{leb, ltb}
use lib.ListN.{length, get_or, drop, length-append, length-drop}
use borrow.Author.Tests.{leb-true}
use Rattle.model.specs.declared.Ty.{Ty}
use Rattle.model.specs.declared.Token.{Token}
use Rattle.model.specs.Bytes.{two_at, two_bytes}
use Rattle.model.specs.Values.{in_precision}
use Rattle.model.specs.Expressions.{type_at}
use Rattle.model.specs.Network.{box, output, Net, got, got_of, wire, fresh, vars_of}
use Rattle.model.specs.NetworkFile.{Index, every, variable_start, box_limits, body_at, box_of, box_at}
use Rattle.model.specs.States.{tokens_bytes, own_bytes, room_fits, values_fit, own_fits, own_in, output_field}
use Rattle.model.proofs.Tests.{and₂, and₅}
use Rattle.model.proofs.Decoded.{every_at}
use Rattle.octets.proofs.Laws.{Octets, length_two}
use Rattle.queues.proofs.Queues.{length_tokens}
use Rattle.queues.proofs.Reading.{octets-drop, tokens_take, length_read, room_count}
use Rattle.tokens.specs.Parts.{Precise, field_bytes}

-- ── a box ────────────────────────────────────────────────────────────────────────────────────

precision : (t : Ty) → in_precision t ≡ true → (1 ≤ t.p) × (t.p ≤ 30)
unfolding in_precision
precision t e = let a = and₂ (leb 1 t.p) (leb t.p 30) e in (leb-true 1 t.p a.0, leb-true t.p 30 a.1)

-- what values_fit asks of a body, from the limits of a box
pub precise : (seen : ℕ) (b : List ℕ) → box_limits seen b ≡ true → Precise b
unfolding box_limits
precise seen b e =
    let test : ℕ → Bool = λ j. in_precision (type_at b (variable_start b j)) in
    let a = and₅ (ltb seen 32) (leb (get_or b 0 0) 4) (leb (get_or b 1 0) 4) (leb (get_or b 2 0) 4) (every (get_or b 2 0) test) e in
    let at = every_at (get_or b 2 0) test a.4 in
    record { low = λ j h. (precision (type_at b (variable_start b j)) (at j h)).0; high = λ j h. (precision (type_at b (variable_start b j)) (at j h)).1 }

-- box k of a network file: its variables are those of its field's body
module _ (s : List ℕ) (x : Index) (k : ℕ) where
  pub fits_box : (n : Net) (counted : Bool) (part : List ℕ) → own_fits n counted (box (box_at s x k)) part ≡ values_fit (box_of (body_at s (get_or x.boxes k 0))).vars part
  unfolding own_fits box_at
  fits_box n counted part = refl

  pub load_box : own_bytes (box (box_at s x k)) (fresh (box (box_at s x k))) ≡ own_bytes (box (box_of (body_at s (get_or x.boxes k 0)))) (fresh (box (box_of (body_at s (get_or x.boxes k 0)))))
  unfolding own_bytes fresh vars_of box_at
  load_box = refl

-- ── an output ────────────────────────────────────────────────────────────────────────────────

pub fits_output : (n : Net) (counted : Bool) (w room : ℕ) (s : List ℕ) → own_fits n counted (output w room) s ≡ room_fits (wire n w).ty room (two_at s 0) (drop 2 s)
unfolding own_fits
fits_output n counted w room s = refl

-- what field_out asks of a part that fits
pub output_needs : (t : Ty) (room : ℕ) (s : List ℕ) → Octets s → room ≤ 1000 → length s ≡ 2 + 5 * room → room_fits t room (two_at s 0) (drop 2 s) ≡ true → (two_at s 0 ≤ 1000) × (2 + 5 * two_at s 0 ≤ length s)
output_needs t room s b h l e = let c = room_count t room (two_at s 0) (drop 2 s) (octets-drop 2 s b) e in (omega arith, omega arith)

-- the field of what a part holds
pub field_in : (w room : ℕ) (s : List ℕ) → Octets s → 2 + 5 * two_at s 0 ≤ length s → field_bytes s ≡ output_field (output w room) (own_in (output w room) s)
unfolding field_bytes output_field own_in got_of
field_in w room s b h =
    let k : ℕ = two_at s 0 in
    let d : 5 * k ≤ length (drop 2 s) = simp length-drop (omega arith) in
    ap₂ (λ (j : ℕ) (l : List ℕ). 33 ∷ (two_bytes (5 * j) ++ l)) (sym (length_read k (drop 2 s))) (sym (tokens_take k (drop 2 s) (octets-drop 2 s b) d))

pub length_field : (w room : ℕ) (ts : List Token) → length (output_field (output w room) (got ts)) ≡ 3 + 5 * length ts
unfolding output_field got_of
length_field w room ts = omega (arith, length-append (two_bytes (5 * length ts)) (tokens_bytes ts), length_two (5 * length ts), length_tokens ts)
