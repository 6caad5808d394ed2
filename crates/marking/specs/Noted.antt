-- Marks noted one after another.
-- Assumes nothing.
use Rattle.std.specs.Prelude.{ℕ, ◌+◌, ◌^◌, cond, List, ltb, set, Result, Ok, Err}
use Rattle.model.specs.declared.Fault.{Fault}
use Rattle.model.specs.declared.Refusal.{Refusal}
use Rattle.model.specs.Cycles.{Mark, quiet, fires, faulty}
use Rattle.model.specs.Calls.{Marking, marks, refusal, no_marks}

-- the set with process k's mark, or its fault
unfoldable pub step_as : Mark → ℕ → ℕ → Result ℕ Fault
step_as quiet k s = Ok s
step_as (fires r) k s = Ok (s + 2 ^ k)
step_as (faulty x) k s = Err x

-- rule numbers with that of process k, if it is one of so many boxes
unfoldable pub with_rule : ℕ → ℕ → ℕ → List ℕ → List ℕ
with_rule k boxes r rules = cond (ltb k boxes) (set rules k r) rules

unfoldable pub rules_as : Mark → ℕ → ℕ → List ℕ → List ℕ  -- by its mark
rules_as quiet k boxes rules = rules
rules_as (fires r) k boxes rules = with_rule k boxes r rules
rules_as (faulty x) k boxes rules = rules

-- the marking's answer with the rule numbers beside it; beside a refusal they don't count
unfoldable pub marking_of : Result ℕ Refusal → List ℕ → Marking
marking_of (Ok s) rules = record { answer = marks s; rules = rules }
marking_of (Err r) rules = no_marks (refusal r)
