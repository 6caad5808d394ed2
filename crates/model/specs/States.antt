-- Tokens in the token file, the state byte by byte, the output file.
-- Assumes nothing.
use Rattle.std.specs.Prelude.{ℕ, zero, suc, ◌+◌, ◌-◌, ◌*◌, ◌/◌, ◌%◌, Bool, true, not, cond, ◌&&◌, ◌||◌, leb, eqb, get_or, drop, take, length, replicate, ℤ, pos, Option, Some, None}
use mathlib.Core.List.{List, [], ◌∷◌, ◌++◌, map, zip_with}
use Rattle.model.specs.declared.Ty.{Ty}
use Rattle.model.specs.declared.Token.{Token}
use Rattle.model.specs.declared.Field.{Field}
use Rattle.model.specs.Bytes.{two_at, value_at, two_bytes, value_bytes, stretch}
use Rattle.model.specs.Values.{carried, within, eq_z}
use Rattle.model.specs.Rules.{tag_fits}
use Rattle.model.specs.Network.{Wire, Variable, Proc, box, input, output, Net, Own, vars, taken, got, State, wire, vars_of, taken_of, got_of}
use Rattle.model.specs.NetworkFile.{field_at, Verdict, good, refuse, next, or_refuse}

-- ── tokens ───────────────────────────────────────────────────────────────────────────────────

-- a token is 5 bytes: a tag, then a four-byte value
unfoldable pub token_at : List ℕ → Token
token_at s = record { tag = get_or s 0 0; value = value_at s 1 }

unfoldable pub read_tokens : ℕ → List ℕ → List Token  -- k tokens
read_tokens zero s = []
read_tokens (suc k) s = token_at s ∷ read_tokens k (drop 5 s)

unfoldable pub token_bytes : Token → List ℕ  -- its 5 bytes
token_bytes t = t.tag ∷ value_bytes t.value

unfoldable pub tokens_bytes : List Token → List ℕ  -- oldest first
tokens_bytes [] = []
tokens_bytes (t ∷ ts) = token_bytes t ++ tokens_bytes ts

-- a wire's token: a tag of its wire, the value zero for tags 1 and 2 and else of the type carried
unfoldable pub token_fits : Ty → Token → Bool
token_fits t k = tag_fits t k.tag && leb k.tag 3 && cond (eqb k.tag 1 || eqb k.tag 2) (eq_z k.value (pos 0)) (within (carried t) k.value)

unfoldable pub tokens_fit : Ty → List Token → Bool  -- all of them
tokens_fit t [] = true
tokens_fit t (k ∷ ks) = token_fits t k && tokens_fit t ks

-- ── the token file: one field, tag 32, per input in order, length a multiple of 5 ────────────

unfoldable pub tokens_in : List ℕ → List Token  -- a field's tokens
tokens_in b = read_tokens (length b / 5) b

unfoldable pub token_field : Ty → ℕ → List ℕ → Bool  -- tag, length, well-typed tokens
token_field t tag b = eqb tag 32 && eqb (length b % 5) 0 && tokens_fit t (tokens_in b)

-- the field for an input of type t at an offset: its tokens and where the next one is, or a bad field there
unfoldable pub input_tokens : Ty → List ℕ → ℕ → Option Field → Verdict (List Token × ℕ)
input_tokens t s at None = refuse 5 at
input_tokens t s at (Some f) = let b = stretch s f.start f.len in or_refuse (token_field t f.tag b) 5 at (good (tokens_in b, f.start + f.len))

-- the tokens of each input, from an offset on; what is missing, bad or extra is so at the offset reached
unfoldable pub tokens_from : List Ty → List ℕ → ℕ → Verdict (List (List Token))
tokens_from [] s at = or_refuse (eqb at (length s)) 5 at (good [])
tokens_from (t ∷ ts) s at = next (input_tokens t s at (field_at s at)) (λ r. next (tokens_from ts s r.1) (λ rest. good (r.0 ∷ rest)))

unfoldable pub token_file : List Ty → List ℕ → Verdict (List (List Token))  -- too long is 5 at place 0
token_file ts s = let v = tokens_from ts s 0 in or_refuse (leb (length s) 16384) 5 0 v

-- the types of the wires that inputs write
unfoldable pub input_types : Net → List Proc → List Ty
input_types n [] = []
input_types n (box b ∷ ps) = input_types n ps
input_types n (input w ts ∷ ps) = (wire n w).ty ∷ input_types n ps
input_types n (output w room ∷ ps) = input_types n ps

-- ── the layout ───────────────────────────────────────────────────────────────────────────────

-- tokens in a room: oldest first, unused bytes zero
unfoldable pub room_bytes : ℕ → List Token → List ℕ
room_bytes room ts = tokens_bytes ts ++ replicate ((room - length ts) * 5) 0

-- per wire: count byte, then capacity x 5 bytes
unfoldable pub wire_bytes : Wire → List Token → List ℕ
wire_bytes w q = length q ∷ room_bytes w.capacity q

unfoldable pub values_bytes : List ℤ → List ℕ  -- a box's variables
values_bytes [] = []
values_bytes (z ∷ zs) = value_bytes z ++ values_bytes zs

-- per box variable: four bytes; per input: two-byte count of tokens taken; per output: two-byte count, then room x 5 bytes
unfoldable pub own_bytes : Proc → Own → List ℕ
own_bytes (box b) o = values_bytes (vars_of o)
own_bytes (input w ts) o = two_bytes (taken_of o)
own_bytes (output w room) o = two_bytes (length (got_of o)) ++ room_bytes room (got_of o)

-- one after another
unfoldable pub cat : List (List ℕ) → List ℕ
cat [] = []
cat (x ∷ xs) = x ++ cat xs

-- the wires in order, then the processes in order
unfoldable pub segments : Net → State → List (List ℕ)
segments n s = zip_with wire_bytes n.wires s.queues ++ zip_with own_bytes n.procs s.owns

unfoldable pub bytes_of : Net → State → List ℕ  -- the state, byte by byte
bytes_of n s = cat (segments n s)

-- ── sizes ────────────────────────────────────────────────────────────────────────────────────

unfoldable pub wire_size : Wire → ℕ  -- bytes of a wire
wire_size w = 1 + 5 * w.capacity

unfoldable pub own_size : Proc → ℕ  -- bytes of a process
own_size (box b) = 4 * length b.vars
own_size (input w ts) = 2
own_size (output w room) = 2 + 5 * room

unfoldable pub sum : List ℕ → ℕ  -- of all
sum [] = 0
sum (k ∷ ks) = k + sum ks

unfoldable pub wires_size : Net → ℕ  -- bytes of all wires
wires_size n = sum (map wire_size n.wires)

unfoldable pub state_size : Net → ℕ  -- bytes of a state
state_size n = wires_size n + sum (map own_size n.procs)

-- ── a saved state read back ──────────────────────────────────────────────────────────────────

unfoldable pub all_zero : List ℕ → Bool  -- nothing but zeros
all_zero [] = true
all_zero (x ∷ xs) = eqb x 0 && all_zero xs

-- k tokens of a type in a room, and zeros
unfoldable pub room_fits : Ty → ℕ → ℕ → List ℕ → Bool
room_fits t room k s = leb k room && tokens_fit t (read_tokens k s) && all_zero (drop (5 * k) s)

unfoldable pub wire_fits : Wire → List ℕ → Bool  -- a wire's bytes hold a queue
wire_fits w s = room_fits w.ty w.capacity (get_or s 0 0) (drop 1 s)

unfoldable pub queue_in : Wire → List ℕ → List Token  -- the queue they hold
queue_in w s = read_tokens (get_or s 0 0) (drop 1 s)

unfoldable pub values_in : List Variable → List ℕ → List ℤ  -- the variables they hold
values_in [] s = []
values_in (v ∷ vs) s = value_at s 0 ∷ values_in vs (drop 4 s)

unfoldable pub values_fit : List Variable → List ℕ → Bool  -- each of its type
values_fit [] s = true
values_fit (v ∷ vs) s = within v.ty (value_at s 0) && values_fit vs (drop 4 s)

-- what a process keeps; a call without a token file skips the taken counts
unfoldable pub own_fits : Net → Bool → Proc → List ℕ → Bool
own_fits n counted (box b) s = values_fit b.vars s
own_fits n counted (input w ts) s = not counted || leb (two_at s 0) (length ts)
own_fits n counted (output w room) s = room_fits (wire n w).ty room (two_at s 0) (drop 2 s)

unfoldable pub own_in : Proc → List ℕ → Own  -- what they hold for a process
own_in (box b) s = vars (values_in b.vars s)
own_in (input w ts) s = taken (two_at s 0)
own_in (output w room) s = got (read_tokens (two_at s 0) (drop 2 s))

-- bytes in stretches of these sizes
unfoldable pub split : List ℕ → List ℕ → List (List ℕ)
split [] s = []
split (k ∷ ks) s = take k s ∷ split ks (drop k s)

unfoldable pub all_true : List Bool → Bool  -- every one holds
all_true [] = true
all_true (b ∷ bs) = b && all_true bs

unfoldable pub wire_parts : Net → List ℕ → List (List ℕ)  -- each wire's bytes
wire_parts n s = split (map wire_size n.wires) s

unfoldable pub own_parts : Net → List ℕ → List (List ℕ)  -- each process's bytes
own_parts n s = split (map own_size n.procs) (drop (wires_size n) s)

-- it has the layout, each value is of its type, and no more tokens are taken than the file has
unfoldable pub state_fits : Net → Bool → List ℕ → Bool
state_fits n counted s = all_true (zip_with wire_fits n.wires (wire_parts n s)) && all_true (zip_with (own_fits n counted) n.procs (own_parts n s))

unfoldable pub state_in : Net → List ℕ → State  -- the state that bytes hold
state_in n s = record { queues = zip_with queue_in n.wires (wire_parts n s); owns = zip_with own_in n.procs (own_parts n s) }

-- ── the output file: one field, tag 33, per output ───────────────────────────────────────────

unfoldable pub output_field : Proc → Own → List ℕ  -- only an output has one
output_field (box b) o = []
output_field (input w ts) o = []
output_field (output w room) o = 33 ∷ (two_bytes (5 * length (got_of o)) ++ tokens_bytes (got_of o))

unfoldable pub output_file : Net → State → List ℕ  -- in order
output_file n s = cat (zip_with output_field n.procs s.owns)
