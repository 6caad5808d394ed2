-- One firing: what it asks of the state that it finds, and a box's deed as the code works it out from a rule's body.
-- Assumes nothing.
use Rattle.std.specs.Prelude.{ℕ, ◌+◌, ◌≤◌, ◌<◌, ◌≡◌, true, false, List, ℤ, pos, length, get_or}
use Rattle.model.specs.Network.{Box, Net, vars, State, wire, capacity, proc, queue, own, vars_of, ins_of}
use Rattle.model.specs.States.{tokens_fit}
use Rattle.model.specs.Cycles.{Deed, fires, look, moves, reads_of, deed_of, mark}
use Rattle.model.specs.Orders.{on_wire}
use Rattle.model.proofs.Kept.{GoodOwn}
use Rattle.expressions.specs.Reading.{skip_to}
use Rattle.shapes.specs.declared.Arity.{Arity}
use Rattle.rules.specs.Bodies.{actions_from}
use Rattle.types.specs.Scopes.{scope_in}
use Rattle.table.specs.declared.Counts.{Counts}
use Rattle.actions.proofs.Acting.{Ready}
use Rattle.taking.specs.Reading.{read_from, CanRead}
use Rattle.putting.specs.Putting.{sent_from, new_from}

-- the deed of process k under rule r, on the state that it finds
unfoldable pub deed_at : Net → ℕ → ℕ → State → Deed
deed_at n k r s = let p = proc n k in deed_of n p r (look s (ins_of p) (reads_of p r)) (own s k)

-- a token on each wire that the deed takes from, a place on each that it puts on; its tokens and what the process keeps are of the types
pub record Sound (n : Net) (s : State) (k : ℕ) (d : Deed) : Type 0 where
  pub has : (w : ℕ) → length (on_wire w d.took) ≤ length (queue s w)
  pub room : (w : ℕ) → length (queue s w) + length (on_wire w d.put) ≤ capacity n w
  pub fit : (w : ℕ) → tokens_fit (wire n w).ty (on_wire w d.put) ≡ true
  pub keeps : GoodOwn n (proc n k) d.keeps

-- box k, which is b, has a rule r, and can fire under it
pub record BoxReady (b : Box) (c : Counts) (n : Net) (s : State) (k r : ℕ) : Type 0 where
  pub known : k < c.boxes
  pub there : r < length b.rules
  pub sound : Sound n s k (deed_at n k r s)

-- process k was marked by rule r in the state of the cycle's start, still keeps what it kept there, and its deed can be done
pub record Chosen (c : Counts) (n : Net) (s : State) (k r : ℕ) : Type 0 where
  pub known : k < c.boxes + c.inputs + c.outputs
  pub start : State
  pub same : own s k ≡ own start k
  pub marked : mark n start k ≡ fires r
  pub sound : Sound n s k (deed_at n k r s)

-- the offset after the output actions, which begin at an offset of a rule's body
unfoldable pub sets_from : Arity → ℕ → List ℕ → ℕ
sets_from a from body = skip_to from (actions_from false a.outs from body)

-- the deed of box k as a rule's body says it, whose output actions begin at an offset, from these values and types
unfoldable pub deed_in : Box → Arity → ℕ → List ℕ → List ℤ → List ℕ → ℕ → State → Deed
deed_in b a from body vals types k s = record {
  took = moves b.ins (look s b.ins (read_from (length b.ins) 0 body));
  put = sent_from vals types b.outs body a.outs from;
  keeps = vars (new_from vals types (vars_of (own s k)) body a.vars (sets_from a from body));
}

-- that deed can be done
pub record Works (c : Counts) (n : Net) (s : State) (b : Box) (k : ℕ) (a : Arity) (from : ℕ) (body : List ℕ) (vals : List ℤ) (types : List ℕ) : Type 0 where
  pub read : CanRead c s b.ins k body
  pub outs : a.outs ≡ length b.outs
  pub vars : (a.vars ≤ 4) × (a.vars ≡ length (vars_of (own s k)))
  pub sends : Ready (scope_in types) false body a.outs from
  pub sets : Ready (scope_in types) true body a.vars (sets_from a from body)
  pub held : (j : ℕ) → j < length (vars_of (own s k)) → get_or vals (4 + j) (pos 0) ≡ get_or (vars_of (own s k)) j (pos 0)
  pub sound : Sound n s k (deed_in b a from body vals types k s)
