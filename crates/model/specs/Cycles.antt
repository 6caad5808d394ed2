-- One cycle: marking, firing, a cycle in an order, a run (manual chapter 7, with the choices of document 01).
-- Assumes nothing.
use Rattle.std.specs.Prelude.{ℕ, zero, suc, ◌+◌, ◌-◌, ◌/◌, ◌%◌, ◌^◌, Bool, true, false, not, ◌&&◌, ◌||◌, List, [], ◌∷◌, ◌++◌, map, leb, ltb, eqb, get_or, set, drop, length, ℤ, pos, Option, Some, None, Ok, Err}
use Rattle.model.specs.declared.Token.{Token}
use Rattle.model.specs.declared.Fault.{Fault}
use Rattle.model.specs.declared.Ending.{Ending}
use Rattle.model.specs.declared.Ending.TheVariants as ending
use Rattle.model.specs.Values.{eq_z, is_true, Outcome}
use Rattle.model.specs.Expressions.{Env, value_of}
use Rattle.model.specs.Rules.{Pattern, ignore, any, only, Action, nothing, bare, send, Rule, scope_of}
use Rattle.model.specs.Network.{Box, Proc, box, input, output, Net, Own, vars, taken, got, State, no_token, capacity, proc, rule, queue, own, vars_of, taken_of, got_of, ins_of, outs_of, shape_of}

-- ── queues ───────────────────────────────────────────────────────────────────────────────────

unfoldable pub empty : List Token → Bool  -- no token waits
empty [] = true
empty (t ∷ ts) = false

unfoldable pub oldest : List Token → Token  -- the token that came first
oldest [] = no_token
oldest (t ∷ ts) = t

unfoldable pub full : Net → State → ℕ → Bool  -- as many tokens as the capacity
full n s w = leb (capacity n w) (length (queue s w))

-- ── patterns ─────────────────────────────────────────────────────────────────────────────────

-- an ignored input isn't read; every other pattern reads one token
unfoldable pub reads : Pattern → Bool
reads ignore = false
reads (any t) = true
reads (only t z) = true

unfoldable pub matches : Pattern → Token → Bool  -- does the token have the tag, and the value
matches ignore k = true
matches (any t) k = eqb t k.tag
matches (only t z) k = eqb t k.tag && eq_z z k.value

-- an ignored input is always ready
unfoldable pub ready_in : Pattern → List Token → Bool
ready_in p q = not (reads p) || (not (empty q) && matches p (oldest q))

unfoldable pub ready_ins : State → List ℕ → List Pattern → Bool  -- every input pattern ready
ready_ins s [] ps = true
ready_ins s (w ∷ ws) [] = true
ready_ins s (w ∷ ws) (p ∷ ps) = ready_in p (queue s w) && ready_ins s ws ps

-- a variable is matched as a plain token is
unfoldable pub ready_vars : List ℤ → List Pattern → Bool
ready_vars [] ps = true
ready_vars (v ∷ vs) [] = true
ready_vars (v ∷ vs) (p ∷ ps) = matches p (record { tag = 0; value = v }) && ready_vars vs ps

unfoldable pub writes : Action → Bool  -- does the action put a token
writes nothing = false
writes (bare t) = true
writes (send t e) = true

-- every written output's wire isn't full
unfoldable pub ready_outs : Net → State → List ℕ → List Action → Bool
ready_outs n s [] acts = true
ready_outs n s (w ∷ ws) [] = true
ready_outs n s (w ∷ ws) (a ∷ acts) = not (writes a && full n s w) && ready_outs n s ws acts

-- ── what a firing does ───────────────────────────────────────────────────────────────────────

-- a token with its wire
pub record Move : Type 0 where
  pub wire : ℕ
  pub token : Token

-- what a firing takes, what it puts, and what the process then keeps
pub record Deed : Type 0 where
  pub took : List Move
  pub put : List Move
  pub keeps : Own

-- the oldest token of each wire that is read, none where the wire is ignored
unfoldable pub seen : Bool → List Token → Option Token
seen true q = Some (oldest q)
seen false q = None

unfoldable pub look : State → List ℕ → List Bool → List (Option Token)  -- what a process sees on its wires
look s [] bs = []
look s (w ∷ ws) [] = []
look s (w ∷ ws) (b ∷ bs) = seen b (queue s w) ∷ look s ws bs

-- tokens, each with its wire
unfoldable pub moves : List ℕ → List (Option Token) → List Move
moves [] ts = []
moves (w ∷ ws) [] = []
moves (w ∷ ws) (None ∷ ts) = moves ws ts
moves (w ∷ ws) (Some t ∷ ts) = record { wire = w; token = t } ∷ moves ws ts

-- the matched value of an input, 0 where it is ignored
unfoldable pub matched_value : Option Token → ℤ
matched_value None = pos 0
matched_value (Some t) = t.value

-- what the expressions of a rule are worked out from: what the box sees, and its variables before the firing
unfoldable pub env_of : Net → Box → Rule → List (Option Token) → List ℤ → Env
env_of n b r sees vs = record { scope = scope_of (shape_of n.wires b) r; ins = map matched_value sees; vars = vs }

unfoldable pub or_zero : Outcome → ℤ  -- the value; a fault is no value
or_zero (Ok v) = v.value
or_zero (Err x) = pos 0

unfoldable pub result : Env → Action → Option Token  -- what an action sends
result en nothing = None
result en (bare t) = Some (record { tag = t; value = pos 0 })
result en (send t e) = Some (record { tag = t; value = or_zero (value_of en e) })

unfoldable pub new_var : Env → ℤ → Action → ℤ  -- what an action leaves in a variable
new_var en v nothing = v
new_var en v (bare t) = v
new_var en v (send t e) = or_zero (value_of en e)

-- all actions use the variables' values from before the firing, those of `en`
unfoldable pub new_vars : Env → List ℤ → List Action → List ℤ
new_vars en [] acts = []
new_vars en (v ∷ old) [] = v ∷ new_vars en old []
new_vars en (v ∷ old) (a ∷ acts) = new_var en v a ∷ new_vars en old acts

-- which of its input wires a process reads under rule r
unfoldable pub reads_of : Proc → ℕ → List Bool
reads_of (box b) r = map reads (rule b r).ins
reads_of (input w ts) r = []
reads_of (output w room) r = true ∷ []

-- what a process sends to its output wires, from what it sees and kept
unfoldable pub sent_of : Net → Proc → ℕ → List (Option Token) → Own → List (Option Token)
sent_of n (box b) r sees o = map (result (env_of n b (rule b r) sees (vars_of o))) (rule b r).outs
sent_of n (input w ts) r sees o = Some (get_or ts (taken_of o) no_token) ∷ []
sent_of n (output w room) r sees o = []

unfoldable pub present : List (Option Token) → List Token  -- the tokens that are there
present [] = []
present (None ∷ ts) = present ts
present (Some t ∷ ts) = t ∷ present ts

unfoldable pub kept_of : Net → Proc → ℕ → List (Option Token) → Own → Own  -- what a process keeps, from what it sees and kept
kept_of n (box b) r sees o = vars (new_vars (env_of n b (rule b r) sees (vars_of o)) (vars_of o) (rule b r).sets)
kept_of n (input w ts) r sees o = taken (suc (taken_of o))
kept_of n (output w room) r sees o = got (got_of o ++ present sees)

-- the deed of a process under rule r, from what it sees and kept
unfoldable pub deed_of : Net → Proc → ℕ → List (Option Token) → Own → Deed
deed_of n p r sees o = record { took = moves (ins_of p) sees; put = moves (outs_of p) (sent_of n p r sees o); keeps = kept_of n p r sees o }

unfoldable pub take_all : List Move → List (List Token) → List (List Token)  -- each move takes the oldest token of its wire
take_all [] qs = qs
take_all (m ∷ ms) qs = take_all ms (set qs m.wire (drop 1 (get_or qs m.wire [])))

unfoldable pub put_all : List Move → List (List Token) → List (List Token)  -- each move puts its token behind the others
put_all [] qs = qs
put_all (m ∷ ms) qs = put_all ms (set qs m.wire (get_or qs m.wire [] ++ (m.token ∷ [])))

-- takes the matched tokens, then puts the results
unfoldable pub act : ℕ → Deed → State → State
act k d s = record { queues = put_all d.put (take_all d.took s.queues); owns = set s.owns k d.keeps }

-- ── marking ──────────────────────────────────────────────────────────────────────────────────

-- not marked; marked, with the rule's number (0 for an input or output); a fault
pub data Mark : Type 0 where
  quiet : Mark
  fires : ℕ → Mark
  faulty : Fault → Mark

-- the first fault among the actions, else the mark
unfoldable pub faultless : Outcome → Mark → Mark
faultless (Ok v) m = m
faultless (Err x) m = faulty x

unfoldable pub actions_of : Env → List Action → Mark → Mark  -- the expressions of the actions in file order
actions_of en [] m = m
actions_of en (nothing ∷ acts) m = actions_of en acts m
actions_of en (bare t ∷ acts) m = actions_of en acts m
actions_of en (send t e ∷ acts) m = faultless (value_of en e) (actions_of en acts m)

-- guard true: the rule is the chosen one, unless one of its actions faults
unfoldable pub chosen : Env → Rule → ℕ → Mark
chosen en r k = actions_of en r.outs (actions_of en r.sets (fires k))

-- the mark where the test passes, quiet where it doesn't
unfoldable pub attempt : Bool → Mark → Mark
attempt true m = m
attempt false m = quiet

unfoldable pub guarded : Env → Rule → ℕ → Outcome → Mark  -- a guard that is reached
guarded en r k (Err x) = faulty x
guarded en r k (Ok v) = attempt (is_true v.value) (chosen en r k)

-- every pattern ready, every written output's wire not full
unfoldable pub ready_rule : Net → State → Box → Rule → List ℤ → Bool
ready_rule n s b r vs = ready_ins s b.ins r.ins && ready_vars vs r.vars && ready_outs n s b.outs r.outs

-- rule k of the box; the guard is evaluated only after the rest holds
unfoldable pub try_rule : Net → State → Box → List ℤ → ℕ → Mark
try_rule n s b vs k =
    let r = rule b k in
    let en = env_of n b r (look s b.ins (map reads r.ins)) vs in
    let m = guarded en r k (value_of en r.guard) in
    attempt (ready_rule n s b r vs) m

unfoldable pub or_else : Mark → Mark → Mark  -- the first, unless it is quiet
or_else quiet rest = rest
or_else (fires r) rest = fires r
or_else (faulty x) rest = faulty x

-- the first that is not quiet, in the order given
unfoldable pub first : (ℕ → Mark) → List ℕ → Mark
first f [] = quiet
first f (k ∷ ks) = let rest = first f ks in or_else (f k) rest

unfoldable pub up_from : ℕ → ℕ → List ℕ  -- k numbers from i on
up_from i zero = []
up_from i (suc k) = i ∷ up_from (suc i) k

-- the order in which a box tries its rules: the file's
unfoldable pub tried : Box → Own → List ℕ
tried b o = up_from 0 (length b.rules)

unfoldable pub flag : Bool → Mark  -- marked or not
flag true = fires 0
flag false = quiet

-- an input: tokens left and its wire not full; an output: its wire not empty and room
unfoldable pub mark_of : Net → State → Proc → Own → Mark
mark_of n s (box b) o = first (try_rule n s b (vars_of o)) (tried b o)
mark_of n s (input w ts) o = flag (ltb (taken_of o) (length ts) && not (full n s w))
mark_of n s (output w room) o = flag (not (empty (queue s w)) && ltb (length (got_of o)) room)

unfoldable pub mark : Net → State → ℕ → Mark  -- process k
mark n s k = mark_of n s (proc n k) (own s k)

-- ── firing ───────────────────────────────────────────────────────────────────────────────────

unfoldable pub rule_of : Mark → ℕ  -- the rule of a mark
rule_of quiet = 0
rule_of (fires r) = r
rule_of (faulty x) = 0

-- what process k does on the state s it finds, with the mark and rule from the cycle's start `m`
unfoldable pub deed : Net → (ℕ → Mark) → ℕ → State → Deed
deed n m k s = let p = proc n k in let r = rule_of (m k) in deed_of n p r (look s (ins_of p) (reads_of p r)) (own s k)

unfoldable pub fire : Net → (ℕ → Mark) → ℕ → State → State  -- process k fires
fire n m k s = act k (deed n m k s) s

-- one firing after another, each on the state that the one before left
unfoldable pub fire_all : Net → (ℕ → Mark) → List ℕ → State → State
fire_all n m [] s = s
fire_all n m (k ∷ ks) s = fire_all n m ks (fire n m k s)

-- a cycle in an order
unfoldable pub cycle_in : Net → List ℕ → State → State
cycle_in n ks s = fire_all n (mark n s) ks s

-- ── the marked set ───────────────────────────────────────────────────────────────────────────

unfoldable pub marked : Mark → Bool  -- is it marked
marked quiet = false
marked (fires r) = true
marked (faulty x) = false

unfoldable pub keep_if : Bool → ℕ → List ℕ → List ℕ  -- k where it is kept
keep_if true k ks = k ∷ ks
keep_if false k ks = ks

unfoldable pub marked_from : (ℕ → Mark) → List ℕ → List ℕ  -- the marked ones of a list
marked_from m [] = []
marked_from m (k ∷ ks) = keep_if (marked (m k)) k (marked_from m ks)

unfoldable pub processes : Net → List ℕ  -- their numbers
processes n = up_from 0 (length n.procs)

-- the marked processes, lowest first
unfoldable pub marked_of : Net → State → List ℕ
marked_of n s = marked_from (mark n s) (processes n)

-- bit k for process k
unfoldable pub bits : List ℕ → ℕ
bits [] = 0
bits (k ∷ ks) = 2 ^ k + bits ks

unfoldable pub marked_set : Net → State → ℕ  -- as one 64-bit number
marked_set n s = bits (marked_of n s)

-- a box's rule number, 16 for a box not marked or not there
unfoldable pub box_rule : Proc → Mark → ℕ
box_rule (box b) quiet = 16
box_rule (box b) (fires r) = r
box_rule (box b) (faulty x) = 16
box_rule (input w ts) m = 16
box_rule (output w room) m = 16

unfoldable pub rule_numbers : Net → State → List ℕ  -- of 32 boxes
rule_numbers n s = map (λ k. box_rule (proc n k) (mark n s k)) (up_from 0 32)

-- what marking finds: a fault with the lowest faulting box, no mark, or marks
pub data Finding : Type 0 where
  broken : ℕ → Fault → Finding
  still : Finding
  moving : Finding

unfoldable pub blame : ℕ → Mark → Finding → Finding  -- the fault of process k, else the rest
blame k quiet rest = rest
blame k (fires r) rest = rest
blame k (faulty x) rest = broken k x

unfoldable pub fault_in : (ℕ → Mark) → List ℕ → Finding → Finding  -- the lowest fault
fault_in m [] else = else
fault_in m (k ∷ ks) else = let rest = fault_in m ks else in blame k (m k) rest

unfoldable pub any_mark : List ℕ → Finding  -- is anything marked
any_mark [] = still
any_mark (k ∷ ks) = moving

unfoldable pub finding : Net → State → Finding  -- a fault, then no mark, then marks
finding n s = fault_in (mark n s) (processes n) (any_mark (marked_of n s))

-- ── the order check: each process named clears its bit, and none is left ─────────────────────

unfoldable pub has : ℕ → ℕ → Bool  -- bit k of m
has m k = eqb (m / 2 ^ k % 2) 1

unfoldable pub is_order : ℕ → List ℕ → Bool  -- names each of the set once
is_order m [] = eqb m 0
is_order m (k ∷ ks) = has m k && is_order (m - 2 ^ k) ks

-- ── a run ────────────────────────────────────────────────────────────────────────────────────

-- how a run ended, the cycles done and the state left
pub record Ended : Type 0 where
  pub ending : Ending
  pub cycles : ℕ
  pub state : State

unfoldable pub stop : Ending → State → Ended  -- no cycle more
stop e s = record { ending = e; cycles = 0; state = s }

unfoldable pub later : Ended → Ended  -- one cycle before
later e = record { ending = e.ending; cycles = suc e.cycles; state = e.state }

-- no budget left: fault, then idle, then spent
unfoldable pub halt : Finding → State → Ended
halt (broken k x) s = stop (ending.Fault x k) s
halt still s = stop ending.Idle s
halt moving s = stop ending.Spent s

-- budget left: fault, then idle, else the cycle and the rest of the run
unfoldable pub proceed : Finding → State → Ended → Ended
proceed (broken k x) s rest = stop (ending.Fault x k) s
proceed still s rest = stop ending.Idle s
proceed moving s rest = later rest

unfoldable pub run : Net → ℕ → State → Ended  -- mark, then the cycle, while the budget lasts
run n zero s = halt (finding n s) s
run n (suc b) s = let rest = run n b (cycle_in n (marked_of n s) s) in proceed (finding n s) s rest
