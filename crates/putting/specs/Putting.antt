-- What a box's actions ask of the state that their results go to, and what they leave there.
-- Assumes nothing.
use Rattle.std.specs.Prelude.{ℕ, ◌+◌, ◌≤◌, ◌<◌, ◌≡◌, true, false, List, [], ◌∷◌, map, ℤ, pos, length, get_or, drop}
use Rattle.model.specs.Expressions.{Scope}
use Rattle.model.specs.Network.{Proc, Net, vars, State, wire, capacity, queue}
use Rattle.model.specs.States.{tokens_fit}
use Rattle.model.specs.Cycles.{Move, moves, result, new_vars, put_all}
use Rattle.model.specs.Orders.{on_wire}
use Rattle.model.proofs.Kept.{GoodOwn}
use Rattle.rules.specs.Bodies.{actions_from, sent_limits}
use Rattle.typing.specs.Fits.{list_read, action_at}
use Rattle.evaluation.specs.Envs.{env_in}
use Rattle.actions.specs.Acts.{sent_typed}
use Rattle.moves.specs.Moves.{with_own}

-- the action at an offset of a body can be worked out
pub record Workable (sc : Scope) (b : List ℕ) (at : ℕ) : Type 0 where
  pub inside : at < length b
  pub limits : sent_limits (drop at b) ≡ true
  pub typed : sent_typed sc (action_at (drop at b)) ≡ true

-- ── results on wires ─────────────────────────────────────────────────────────────────────────

-- the result of the action at an offset, for wire w
unfoldable pub sent_to : List ℤ → List ℕ → ℕ → List ℕ → ℕ → List Move
sent_to vals types w b at = moves (w ∷ []) (result (env_in vals types) (action_at (drop at b)) ∷ [])

-- the results of k actions from an offset on, one for each of these wires
unfoldable pub sent_from : List ℤ → List ℕ → List ℕ → List ℕ → ℕ → ℕ → List Move
sent_from vals types ws b k at = moves ws (map (result (env_in vals types)) (list_read (actions_from false k at b)))

-- every wire has a place for each token that comes, and these are of its type
pub record Places (n : Net) (s : State) (ms : List Move) : Type 0 where
  pub room : (w : ℕ) → w < length n.wires → length (queue s w) + length (on_wire w ms) ≤ capacity n w
  pub fit : (w : ℕ) → w < length n.wires → tokens_fit (wire n w).ty (on_wire w ms) ≡ true

unfoldable pub after_puts : List Move → State → State  -- with each of these put
after_puts ms s = record { queues = put_all ms s.queues; owns = s.owns }

-- ── new values ───────────────────────────────────────────────────────────────────────────────

-- what k actions from an offset on leave in these variables
unfoldable pub new_from : List ℤ → List ℕ → List ℤ → List ℕ → ℕ → ℕ → List ℤ
new_from vals types old b k at = new_vars (env_in vals types) old (list_read (actions_from true k at b))

-- the values hold the variables, and the new ones are the process's own
pub record Keeps (n : Net) (p : Proc) (vals old new : List ℤ) : Type 0 where
  pub held : (j : ℕ) → j < length old → get_or vals (4 + j) (pos 0) ≡ get_or old j (pos 0)
  pub good : GoodOwn n p (vars new)

unfoldable pub after_keeps : ℕ → List ℤ → State → State  -- the variables of box k are these
after_keeps k vs s = with_own k (vars vs) s
