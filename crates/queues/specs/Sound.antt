-- States that their bytes hold: queues within capacity, tokens and values of four bytes, each process with what is its own.
-- Assumes nothing.
use Rattle.std.specs.Prelude.{ℕ, ◌≤◌, ◌<◌, ◌^◌, ◌≡◌, List, [], ◌∷◌, length, ℤ, pos}
use Rattle.std.specs.Int.Signed.{mag}
use Rattle.model.specs.declared.Token.{Token}
use Rattle.model.specs.Network.{Wire, Box, Proc, box, input, output, Net, Own, vars, taken, got, State, no_token}
use Rattle.model.proofs.Decoded.{Each}

-- of each pair of elements at one place, of lists of one length
pub data Both {A B : Type 0} (R : A → B → Type 0) : List A → List B → Type 0 where
  neither : Both R [] []
  pair : {x : A} {y : B} {xs : List A} {ys : List B} → R x y → Both R xs ys → Both R (x ∷ xs) (y ∷ ys)

-- a value that four bytes hold
pub record Small (z : ℤ) : Type 0 where
  pub value : mag z < 2 ^ 31

-- a token that five bytes hold
pub record Sane (t : Token) : Type 0 where
  pub tag : t.tag ≤ 3
  pub value : mag t.value < 2 ^ 31

-- a queue that a wire holds
pub record Held (w : Wire) (q : List Token) : Type 0 where
  pub fits : length q ≤ w.capacity
  pub sane : Each Sane no_token q

-- what a process keeps is of its kind and has its place
pub data Kept : Proc → Own → Type 0 where
  of_box : {b : Box} {zs : List ℤ} → length zs ≡ length b.vars → Each Small (pos 0) zs → Kept (box b) (vars zs)
  of_input : {w k : ℕ} {ts : List Token} → Kept (input w ts) (taken k)
  of_output : {w room : ℕ} {ts : List Token} → length ts ≤ room → Each Sane no_token ts → Kept (output w room) (got ts)

-- a state of a network that its bytes hold
pub record Sound (n : Net) (s : State) : Type 0 where
  pub wires : Both Held n.wires s.queues
  pub procs : Both Kept n.procs s.owns
