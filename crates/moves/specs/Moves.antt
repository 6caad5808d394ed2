-- The single changes of a state that a firing is made of, and lent bytes that became a changed state.
-- Assumes nothing.
use Rattle.std.specs.Prelude.{ℕ, suc, ◌+◌, ◌≤◌, ◌<◌, ◌≡◌, true, List, [], ◌∷◌, ◌++◌, length, get_or, drop, set, ℤ}
use Rattle.model.specs.declared.Ty.{Ty}
use Rattle.model.specs.declared.Token.{Token}
use Rattle.model.specs.Bytes.{two_at, two_bytes}
use Rattle.model.specs.Values.{no_type, within}
use Rattle.model.specs.Network.{Proc, box, input, output, Net, Own, vars, taken, got, State, wire, capacity, proc, queue, own, vars_of, taken_of, got_of}
use Rattle.model.specs.States.{token_fits, state_size}
use Rattle.model.proofs.Decoded.{no_variable}
use Rattle.table.specs.declared.Counts.{Counts}
use Rattle.lookup.specs.Ends.{wire_at, room_at}
use Rattle.places.specs.Standing.{net_in, Standing, state_of}

-- ── another queue, other contents ────────────────────────────────────────────────────────────

unfoldable pub with_queue : ℕ → List Token → State → State  -- wire w holds q
with_queue w q s = record { queues = set s.queues w q; owns = s.owns }

unfoldable pub with_own : ℕ → Own → State → State  -- process k keeps o
with_own k o s = record { queues = s.queues; owns = set s.owns k o }

unfoldable pub after_take : ℕ → State → State  -- without the oldest token of wire w
after_take w s = with_queue w (drop 1 (queue s w)) s

unfoldable pub after_put : ℕ → Token → State → State  -- with one token more on wire w
after_put w t s = with_queue w (queue s w ++ (t ∷ [])) s

unfoldable pub after_keep : ℕ → ℕ → ℤ → State → State  -- variable j of box k is z
after_keep k j z s = with_own k (vars (set (vars_of (own s k)) j z)) s

unfoldable pub after_count : ℕ → State → State  -- input k has taken one token more
after_count k s = with_own k (taken (suc (taken_of (own s k)))) s

unfoldable pub after_receive : ℕ → Token → State → State  -- output k has got one token more
after_receive k t s = with_own k (got (got_of (own s k) ++ (t ∷ []))) s

-- ── what each asks ───────────────────────────────────────────────────────────────────────────

unfoldable pub variable_type : Proc → ℕ → Ty  -- the type of a box's variable j
variable_type (box b) j = (get_or b.vars j no_variable).ty
variable_type (input w ts) j = no_type
variable_type (output w room) j = no_type

unfoldable pub tokens_at : Proc → List Token  -- the tokens of an input
tokens_at (box b) = []
tokens_at (input w ts) = ts
tokens_at (output w room) = []

-- wire w holds a token
pub record CanTake (c : Counts) (s : State) (w : ℕ) : Type 0 where
  pub known : w < c.wires
  pub some : 0 < length (queue s w)

-- wire w isn't full, and the token is of its type
pub record CanPut (c : Counts) (n : Net) (s : State) (w : ℕ) (t : Token) : Type 0 where
  pub known : w < c.wires
  pub room : length (queue s w) < capacity n w
  pub fits : token_fits (wire n w).ty t ≡ true

-- box k has a variable j, and the value is of its type
pub record CanKeep (c : Counts) (n : Net) (s : State) (k j : ℕ) (z : ℤ) : Type 0 where
  pub known : k < c.boxes
  pub there : j < length (vars_of (own s k))
  pub fits : within (variable_type (proc n k) j) z ≡ true

-- input k has a token left
pub record CanCount (c : Counts) (n : Net) (s : State) (k : ℕ) : Type 0 where
  pub least : c.boxes ≤ k
  pub known : k < c.boxes + c.inputs
  pub left : taken_of (own s k) < length (tokens_at (proc n k))

-- output k has room, and the token is of its wire's type
pub record CanReceive (c : Counts) (n : Net) (s : State) (k : ℕ) (t : Token) : Type 0 where
  pub least : c.boxes + c.inputs ≤ k
  pub known : k < c.boxes + c.inputs + c.outputs
  pub room : length (got_of (own s k)) < room_at (proc n k)
  pub fits : token_fits (wire n (wire_at (proc n k))).ty t ≡ true

-- an input's count can go up by one
pub record CountRoom (s : List ℕ) : Type 0 where
  pub whole : 2 ≤ length s
  pub small : two_at s 0 < 65535

-- ── what each leaves ─────────────────────────────────────────────────────────────────────────

-- an input's bytes with a count one higher
unfoldable pub count_bytes : List ℕ → List ℕ
count_bytes s = two_bytes (two_at s 0 + 1) ++ drop 2 s

-- lent bytes b became b', which hold the state s'; every byte beyond the state is as it was
pub record Became (s t p ts b : List ℕ) (c : Counts) (b' : List ℕ) (s' : State) : Type 0 where
  pub stands : Standing s t p ts b' c
  pub state : state_of s t c ts b' ≡ s'
  pub long : length b' ≡ length b
  pub rest : drop (state_size (net_in s t c ts)) b' ≡ drop (state_size (net_in s t c ts)) b
