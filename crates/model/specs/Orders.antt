-- Demand 3: inside a cycle the order of the marked processes doesn't matter.
-- Assumes nothing.
use Rattle.std.specs.Prelude.{ℕ, ◌≤◌, ◌≡◌, ◌≢◌, Bool, true, false, List, [], ◌∷◌, ◌++◌, eqb, length}
use Rattle.model.specs.declared.Token.{Token}
use Rattle.model.specs.declared.Fault.{Fault}
use Rattle.model.specs.Network.{Net, State, capacity, queue, loaded}
use Rattle.model.specs.NetworkFile.{count, good}
use Rattle.model.specs.Calls.{with_tokens}
use Rattle.model.specs.States.{bytes_of, state_fits, state_in}
use Rattle.model.specs.Cycles.{Move, Deed, Mark, deed, mark, fire, fire_all, cycle_in, marked_of, finding, broken}

-- a token before others, where it counts
unfoldable pub joined : Bool → Token → List Token → List Token
joined true t ts = t ∷ ts
joined false t ts = ts

-- the tokens that moves bring on wire w, in order
unfoldable pub on_wire : ℕ → List Move → List Token
on_wire w [] = []
on_wire w (m ∷ ms) = joined (eqb m.wire w) m.token (on_wire w ms)

-- the deeds of firings one after another, each noted on the state that it finds
unfoldable pub deeds : Net → (ℕ → Mark) → List ℕ → State → List Deed
deeds n m [] s = []
deeds n m (k ∷ ks) s = deed n m k s ∷ deeds n m ks (fire n m k s)

-- what deeds put on wire w, in order
unfoldable pub put_on : ℕ → List Deed → List Token
put_on w [] = []
put_on w (d ∷ ds) = on_wire w d.put ++ put_on w ds

-- what deeds took from wire w, in order
unfoldable pub taken_from : ℕ → List Deed → List Token
taken_from w [] = []
taken_from w (d ∷ ds) = on_wire w d.took ++ taken_from w ds

-- no fault is met, and the order names each marked process once
pub record Order (n : Net) (s : State) (ks : List ℕ) : Type 0 where
  pub calm : (k : ℕ) (x : Fault) → finding n s ≢ broken k x
  pub names : (k : ℕ) → count k ks ≡ count k (marked_of n s)

-- the states at which cycles from a load end, each cycle in its own order, with all deeds since the load
pub data Reached (n : Net) : State → List Deed → Type 0 where
  at_load : Reached n (loaded n) []
  cycled : {s : State} {ds : List Deed} (ks : List ℕ) → Reached n s ds → Order n s ks → Reached n (cycle_in n ks s) (ds ++ deeds n (mark n s) ks s)

-- no wire holds more than its capacity; what was put on it is what was taken from it followed by what is queued
pub record Sound (n : Net) (s : State) (ds : List Deed) : Type 0 where
  pub shape : length s.queues ≡ length n.wires
  pub fits : (w : ℕ) → length (queue s w) ≤ capacity n w
  pub fifo : (w : ℕ) → put_on w ds ≡ taken_from w ds ++ queue s w

-- the state in which the processes of `done` have fired, in a cycle that began at s
unfoldable pub midway : Net → State → List ℕ → State
midway n s done = fire_all n (mark n s) done s

-- the single firing of k after `done`: no wire is read while empty, the network is sound after it, and it does what it would have done at
-- the cycle's start
pub record Firing (n : Net) (s : State) (ds : List Deed) (done : List ℕ) (k : ℕ) : Type 0 where
  pub nonempty : (w : ℕ) → length (on_wire w (deed n (mark n s) k (midway n s done)).took) ≤ length (queue (midway n s done) w)
  pub sound : Sound n (midway n s (done ++ (k ∷ []))) (ds ++ deeds n (mark n s) (done ++ (k ∷ [])) s)
  pub as_at_start : deed n (mark n s) k (midway n s done) ≡ deed n (mark n s) k s

-- all orders end a cycle in the same state and the same bytes, and each single firing is as above
pub record AnyOrder (n : Net) : Type 0 where
  pub same_state : {s : State} {ds : List Deed} → Reached n s ds → (ks ls : List ℕ) → Order n s ks → Order n s ls → cycle_in n ks s ≡ cycle_in n ls s
  pub same_bytes : {s : State} {ds : List Deed} → Reached n s ds → (ks ls : List ℕ) → Order n s ks → Order n s ls → bytes_of n (cycle_in n ks s) ≡ bytes_of n (cycle_in n ls s)
  pub each_firing : {s : State} {ds : List Deed} → Reached n s ds → (done : List ℕ) (k : ℕ) (rest : List ℕ) → Order n s (done ++ k ∷ rest) → Firing n s ds done k

-- demand 3: of every accepted network with an accepted token file
unfoldable pub Demand3 : Type 0
Demand3 = (s ts : List ℕ) (n : Net) → with_tokens s ts ≡ good n → AnyOrder n

-- the bytes of a state, whatever stands behind them, give the state back, and a saved state of these bytes is accepted
pub record Back (n : Net) (s : State) (rest : List ℕ) : Type 0 where
  pub state : state_in n (bytes_of n s ++ rest) ≡ s
  pub accepted : state_fits n true (bytes_of n s ++ rest) ≡ true

-- the round trip: so it is with every state reached from a load
unfoldable pub RoundTrip : Type 0
RoundTrip = (s ts : List ℕ) (n : Net) → with_tokens s ts ≡ good n → (at : State) (ds : List Deed) (rest : List ℕ) → Reached n at ds → Back n at rest
