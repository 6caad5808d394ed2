-- The public calls: from all arguments to the answer and to the lent bytes afterwards. Checks go 2 for length, 2 for budget, then field by
-- field, then 3, 5, 6 for the state, 7 (not at a load), 6 for the output file, 9, 8. A refusal changes no lent byte.
-- Assumes nothing.
use Rattle.std.specs.Prelude.{ℕ, Bool, true, false, cond, List, [], ◌++◌, leb, drop, length, replicate, Result, Ok, Err, ⊤}
use Rattle.model.specs.declared.Refusal.{Refusal}
use Rattle.model.specs.declared.Ending.{Ending}
use Rattle.model.specs.declared.Ending.TheVariants as ending
use Rattle.model.specs.declared.Ran.{Ran}
use Rattle.model.specs.declared.Turn.{Turn}
use Rattle.model.specs.declared.Turn.TheVariants as turn
use Rattle.model.specs.Reasons.{fault_number, reason_number}
use Rattle.model.specs.Network.{Net, State, loaded}
use Rattle.model.specs.NetworkFile.{Index, Verdict, good, next, or_refuse, by_verdict, network, net_of, Stretch, rule_stretch}
use Rattle.model.specs.States.{token_file, input_types, bytes_of, state_size, state_fits, state_in, output_file}
use Rattle.model.specs.Cycles as C

-- ── answers ──────────────────────────────────────────────────────────────────────────────────

-- the cases of all answers: the state's size; the marked set; a cycle's and a run's word with the cycles done; the bytes written; a
-- refusal's number, place and cycles
pub data Answer : Type 0 where
  accepted : Answer
  loaded_with : ℕ → Answer
  marks : ℕ → Answer
  done : ℕ → Answer
  idle : ℕ → Answer
  spent : ℕ → Answer
  written : ℕ → Answer
  refused : ℕ → ℕ → ℕ → Answer

-- an answer, and the lent bytes afterwards
pub record After : Type 0 where
  pub answer : Answer
  pub bytes : List ℕ

-- ── what each case of the code's answers says ────────────────────────────────────────────────

-- a refusal reports 0 cycles
unfoldable pub refusal : Refusal → Answer
refusal r = refused (reason_number r.reason) r.place 0

unfoldable pub said_check : Result ⊤ Refusal → Answer  -- of check
said_check (Ok u) = accepted
said_check (Err r) = refusal r

unfoldable pub said_load : Result ℕ Refusal → Answer  -- of load
said_load (Ok size) = loaded_with size
said_load (Err r) = refusal r

unfoldable pub said_mark : Result ℕ Refusal → Answer  -- of mark
said_mark (Ok set) = marks set
said_mark (Err r) = refusal r

unfoldable pub said_cycle : Result Turn Refusal → Answer  -- of cycle
said_cycle (Ok turn.Done) = done 1
said_cycle (Ok turn.Idle) = idle 0
said_cycle (Err r) = refusal r

-- a fault in a run is refusal 9 with the cycles done before it
unfoldable pub said_ending : Ending → ℕ → Answer
said_ending ending.Idle c = idle c
said_ending ending.Spent c = spent c
said_ending (ending.Fault x b) c = refused (fault_number x) b c

unfoldable pub said_run : Result Ran Refusal → Answer  -- of run
said_run (Ok r) = said_ending r.ending r.cycles
said_run (Err r) = refusal r

unfoldable pub said_write : Result ℕ Refusal → Answer  -- of write_outputs
said_write (Ok size) = written size
said_write (Err r) = refusal r

-- ── the checks that calls share ──────────────────────────────────────────────────────────────

-- the network, then 5: the network with its tokens
unfoldable pub tokened : List ℕ → List ℕ → Index → Verdict Net
tokened s ts x =
    let n = net_of s x [] in
    next (token_file (input_types n n.procs) ts) (λ tokens. good (net_of s x tokens))

unfoldable pub with_tokens : List ℕ → List ℕ → Verdict Net  -- 1 to 5
with_tokens s ts = next (network s) (tokened s ts)

-- without a token file
unfoldable pub without_tokens : List ℕ → Verdict Net
without_tokens s = next (network s) (λ x. good (net_of s x []))

-- 6 for the state
unfoldable pub roomy : List ℕ → Net → Verdict Net
roomy st n = or_refuse (leb (state_size n) (length st)) 6 (state_size n) (good n)

-- a network with the state that lent bytes hold
pub record Held : Type 0 where
  pub net : Net
  pub state : State

-- then 7
unfoldable pub held : Bool → List ℕ → Net → Verdict Held
held counted st n = next (roomy st n) (λ m. or_refuse (state_fits m counted st) 7 0 (good (record { net = m; state = state_in m st })))

-- ── the calls ────────────────────────────────────────────────────────────────────────────────

unfoldable pub keeps : List ℕ → Answer → After  -- nothing changed
keeps st a = record { answer = a; bytes = st }

-- the state's bytes, and the rest as it was
unfoldable pub leaves : List ℕ → Net → State → Answer → After
leaves st n s a = record { answer = a; bytes = bytes_of n s ++ drop (state_size n) st }

-- the network's own refusals, no more
unfoldable pub check_call : List ℕ → Answer
check_call s = by_verdict (network s) (λ x. accepted) (λ n p. refused n p 0)

-- the body of rule r of box b
unfoldable pub body_call : List ℕ → ℕ → ℕ → Stretch
body_call s b r = rule_stretch s (network s) b r

-- the same bytes over any old contents
unfoldable pub load_call : List ℕ → List ℕ → List ℕ → After
load_call s ts st =
    by_verdict (next (with_tokens s ts) (roomy st))
    (λ n. leaves st n (loaded n) (loaded_with (state_size n)))
    (λ n p. keeps st (refused n p 0))

-- a marking's answer, and the rule numbers beside it
pub record Marking : Type 0 where
  pub answer : Answer
  pub rules : List ℕ

-- a refusal stands beside 16 for each box
unfoldable pub no_marks : Answer → Marking
no_marks a = record { answer = a; rules = replicate 32 16 }

-- a fault is refused, with the lowest faulting box
unfoldable pub marks_of : Net → State → C.Finding → Marking
marks_of n s (C.broken k x) = no_marks (refused (fault_number x) k 0)
marks_of n s C.still = record { answer = marks (C.marked_set n s); rules = C.rule_numbers n s }
marks_of n s C.moving = record { answer = marks (C.marked_set n s); rules = C.rule_numbers n s }

unfoldable pub mark_call : List ℕ → List ℕ → List ℕ → Marking  -- the set and each box's rule number
mark_call s ts st =
    by_verdict (next (with_tokens s ts) (held true st))
    (λ h. marks_of h.net h.state (C.finding h.net h.state))
    (λ n p. no_marks (refused n p 0))

-- fault, then order check, then idle, then the firings
unfoldable pub cycle_of : List ℕ → List ℕ → Net → State → C.Finding → After
cycle_of st order n s (C.broken k x) = keeps st (refused (fault_number x) k 0)
cycle_of st order n s C.still = cond (C.is_order (C.marked_set n s) order) (keeps st (idle 0)) (keeps st (refused 8 0 0))
cycle_of st order n s C.moving = cond (C.is_order (C.marked_set n s) order) (leaves st n (C.cycle_in n order s) (done 1)) (keeps st (refused 8 0 0))

unfoldable pub cycle_call : List ℕ → List ℕ → List ℕ → List ℕ → After  -- a single cycle in an order
cycle_call s ts st order =
    by_verdict (next (with_tokens s ts) (held true st))
    (λ h. cycle_of st order h.net h.state (C.finding h.net h.state))
    (λ n p. keeps st (refused n p 0))

-- a run's answer, with the state that it ended in
unfoldable pub run_of : List ℕ → Net → C.Ended → After
run_of st n e = leaves st n e.state (said_ending e.ending e.cycles)

-- 2 for the budget comes before the fields
unfoldable pub run_call : List ℕ → List ℕ → List ℕ → ℕ → After
run_call s ts st budget =
    let v = next (with_tokens s ts) (held true st) in
    by_verdict (or_refuse (leb budget 65535) 2 0 v)
    (λ h. run_of st h.net (C.run h.net budget h.state))
    (λ n p. keeps st (refused n p 0))

-- 6 for the output file
unfoldable pub file_in : List ℕ → Held → Verdict (List ℕ)
file_in out h = let f = output_file h.net h.state in or_refuse (leb (length f) (length out)) 6 (length f) (good f)

unfoldable pub write_call : List ℕ → List ℕ → List ℕ → After  -- the output file at the buffer's start
write_call s st out =
    by_verdict (next (next (without_tokens s) (held false st)) (file_in out))
    (λ f. record { answer = written (length f); bytes = f ++ drop (length f) out })
    (λ n p. keeps out (refused n p 0))
