-- What a cycle is told by the marking, and what one pass of a run comes to.
-- Assumes nothing.
use Rattle.std.specs.Prelude.{ℕ, zero, suc, ◌≡◌, ◌≢◌, cond, List, Option, Some, None, Result, ltb, get_or}
use Rattle.model.specs.declared.Fault.{Fault}
use Rattle.model.specs.declared.Ending.{Ending}
use Rattle.model.specs.declared.Ending.TheVariants as ending
use Rattle.model.specs.declared.Refusal.{Refusal}
use Rattle.model.specs.declared.Turn.{Turn}
use Rattle.model.specs.declared.Ran.{Ran}
use Rattle.model.specs.Network.{Net, State}
use Rattle.model.specs.Cycles.{Finding, broken, still, moving, finding, marked_of, marked_set, rule_numbers, cycle_in, Ended}
use Rattle.model.specs.Calls.{After, said_cycle}

-- the rule of process k, from the rule numbers of so many boxes; 0 for an input or output
unfoldable pub rule_for : List ℕ → ℕ → ℕ → ℕ
rule_for rules boxes k = cond (ltb k boxes) (get_or rules k 0) 0

-- the rule numbers are those of the state at the cycle's start
pub record Noted (n : Net) (s : State) (rules : List ℕ) : Type 0 where
  pub same : rules ≡ rule_numbers n s

-- no fault is met; the marked set and the rule numbers are those of the state
pub record Told (n : Net) (s : State) (set : ℕ) (rules : List ℕ) : Type 0 where
  pub calm : (k : ℕ) (x : Fault) → finding n s ≢ broken k x
  pub marks : set ≡ marked_set n s
  pub noted : Noted n s rules

-- a cycle's answer with the lent bytes
unfoldable pub cycle_as : Result Turn Refusal → List ℕ → After
cycle_as r b = record { answer = said_cycle r; bytes = b }

-- how the run ends in a pass with so much budget left: a fault, then nothing marked, then no budget left; None where a cycle is done
unfoldable pub pass_of : Finding → ℕ → Option Ending
pass_of (broken k x) left = Some (ending.Fault x k)
pass_of still left = Some ending.Idle
pass_of moving zero = Some ending.Spent
pass_of moving (suc left) = None

-- the state that it leaves: only a cycle changes it
unfoldable pub after_pass : Finding → ℕ → Net → State → State
after_pass (broken k x) left n s = s
after_pass still left n s = s
after_pass moving zero n s = s
after_pass moving (suc left) n s = cycle_in n (marked_of n s) s

-- a run's answer
unfoldable pub ended_as : Ended → Ran
ended_as e = record { ending = e.ending; cycles = e.cycles }
