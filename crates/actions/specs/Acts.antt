-- Which expressions have a type, and the faults of a rule's actions.
-- Assumes nothing.
use Rattle.std.specs.Prelude.{Bool, true, false, ◌&&◌, List, [], ◌∷◌, Result, Ok, Err, ⊤}
use Rattle.model.specs.declared.Fault.{Fault}
use Rattle.model.specs.Values.{Outcome}
use Rattle.model.specs.Expressions.{Exp, Scope, Typed, typed, ill, type_of, Env, value_of}
use Rattle.model.specs.Rules.{Action, nothing, bare, send}
use Rattle.model.specs.Cycles.{Mark, faulty}

-- ── types ────────────────────────────────────────────────────────────────────────────────────

unfoldable pub is_type : Typed → Bool  -- a type, no failure
is_type (typed t) = true
is_type (ill k) = false

unfoldable pub has_type : Scope → Exp → Bool  -- the expression has a type
has_type sc e = is_type (type_of sc e)

unfoldable pub sent_typed : Scope → Action → Bool  -- the expression of an action has a type
sent_typed sc nothing = true
sent_typed sc (bare t) = true
sent_typed sc (send t e) = has_type sc e

unfoldable pub all_typed : Scope → List Action → Bool  -- each expression among actions has a type
all_typed sc [] = true
all_typed sc (x ∷ xs) = sent_typed sc x && all_typed sc xs

-- ── faults ───────────────────────────────────────────────────────────────────────────────────

unfoldable pub fault_in : Outcome → Result ⊤ Fault  -- the fault, if it is one
fault_in (Ok v) = Ok tt
fault_in (Err x) = Err x

unfoldable pub fault_of : Env → Action → Result ⊤ Fault  -- of an action's expression
fault_of en nothing = Ok tt
fault_of en (bare t) = Ok tt
fault_of en (send t e) = fault_in (value_of en e)

-- the first of two
unfoldable pub or_fault : Result ⊤ Fault → Result ⊤ Fault → Result ⊤ Fault
or_fault (Ok u) f = f
or_fault (Err x) f = Err x

unfoldable pub faults_of : Env → List Action → Result ⊤ Fault  -- the first fault among actions
faults_of en [] = Ok tt
faults_of en (x ∷ xs) = or_fault (fault_of en x) (faults_of en xs)

-- the mark, unless a fault stands before it
unfoldable pub mark_or : Result ⊤ Fault → Mark → Mark
mark_or (Ok u) m = m
mark_or (Err x) m = faulty x
