-- A checked network with its tokens, and a state of it.
-- Assumes nothing.
use Rattle.std.specs.Prelude.{ℕ, List, [], ◌∷◌, map, get_or, ℤ, pos}
use Rattle.model.specs.declared.Ty.{Ty}
use Rattle.model.specs.declared.Token.{Token}
use Rattle.model.specs.Values.{no_type}
use Rattle.model.specs.Rules.{Rule, no_rule, Shape}

-- what a wire carries, and how many tokens it holds
pub record Wire : Type 0 where
  pub ty : Ty
  pub capacity : ℕ

-- what a variable holds at the start
pub record Variable : Type 0 where
  pub ty : Ty
  pub initial : ℤ

-- its input wires, output wires, variables and rules
pub record Box : Type 0 where
  pub ins : List ℕ
  pub outs : List ℕ
  pub vars : List Variable
  pub rules : List Rule

-- a process: a box; an input with its wire and its tokens of the token file; an output with its wire and its room
pub data Proc : Type 0 where
  box : Box → Proc
  input : ℕ → List Token → Proc
  output : ℕ → ℕ → Proc

-- processes are numbered boxes first, then inputs, then outputs
pub record Net : Type 0 where
  pub wires : List Wire
  pub procs : List Proc

-- what a process keeps: a box its variables, an input the count of tokens taken, an output the tokens it got
pub data Own : Type 0 where
  vars : List ℤ → Own
  taken : ℕ → Own
  got : List Token → Own

-- a queue for each wire, oldest first, and what each process keeps
pub record State : Type 0 where
  pub queues : List (List Token)
  pub owns : List Own

-- ── what stands at a number ──────────────────────────────────────────────────────────────────

unfoldable pub no_token : Token  -- for a number that is not there
no_token = record { tag = 0; value = pos 0 }

unfoldable pub no_wire : Wire  -- for a number that is not there
no_wire = record { ty = no_type; capacity = 0 }

unfoldable pub nobody : Proc  -- for a number that is not there
nobody = box (record { ins = []; outs = []; vars = []; rules = [] })

unfoldable pub wire : Net → ℕ → Wire  -- wire w
wire n w = get_or n.wires w no_wire

unfoldable pub capacity : Net → ℕ → ℕ  -- of wire w
capacity n w = (wire n w).capacity

unfoldable pub proc : Net → ℕ → Proc  -- process k
proc n k = get_or n.procs k nobody

unfoldable pub rule : Box → ℕ → Rule  -- rule r
rule b r = get_or b.rules r no_rule

unfoldable pub queue : State → ℕ → List Token  -- the tokens on wire w
queue s w = get_or s.queues w []

unfoldable pub own : State → ℕ → Own  -- what process k keeps
own s k = get_or s.owns k (vars [])

unfoldable pub vars_of : Own → List ℤ  -- a box's variables
vars_of (vars vs) = vs
vars_of (taken c) = []
vars_of (got ts) = []

unfoldable pub taken_of : Own → ℕ  -- an input's count
taken_of (vars vs) = 0
taken_of (taken c) = c
taken_of (got ts) = 0

unfoldable pub got_of : Own → List Token  -- an output's tokens
got_of (vars vs) = []
got_of (taken c) = []
got_of (got ts) = ts

-- the wires that a process reads, and those that it writes
unfoldable pub ins_of : Proc → List ℕ
ins_of (box b) = b.ins
ins_of (input w ts) = []
ins_of (output w room) = w ∷ []

unfoldable pub outs_of : Proc → List ℕ  -- the wires written
outs_of (box b) = b.outs
outs_of (input w ts) = w ∷ []
outs_of (output w room) = []

-- the types of a box's wires and variables, in a network of these wires
unfoldable pub wire_types : List Wire → List ℕ → List Ty
wire_types ws [] = []
wire_types ws (w ∷ rest) = (get_or ws w no_wire).ty ∷ wire_types ws rest

unfoldable pub variable_types : List Variable → List Ty  -- the types of variables
variable_types [] = []
variable_types (v ∷ vs) = v.ty ∷ variable_types vs

unfoldable pub shape_of : List Wire → Box → Shape  -- the types of a box
shape_of ws b = record { ins = wire_types ws b.ins; outs = wire_types ws b.outs; vars = variable_types b.vars }

-- ── load ─────────────────────────────────────────────────────────────────────────────────────

unfoldable pub fresh : Proc → Own  -- what a process keeps at a load
fresh (box b) = vars (map (λ (v : Variable). v.initial) b.vars)
fresh (input w ts) = taken 0
fresh (output w room) = got []

unfoldable pub no_tokens : Wire → List Token  -- an empty wire
no_tokens w = []

-- wires and outputs empty, counts 0, variables initial
unfoldable pub loaded : Net → State
loaded n = record { queues = map no_tokens n.wires; owns = map fresh n.procs }
