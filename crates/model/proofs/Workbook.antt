-- The workbook's examples, P1 to P12, an example of each refusal number, and for each call two refusals that are both due: computed from
-- the definitions, on bytes.
-- Assumes nothing.
use Prim.Native.Nat.{ℕ, zero, suc}
use mathlib.Core.Path.{◌≡◌, refl, ap}
use mathlib.Core.Bool.{Bool, true, false, not, ◌&&◌}
use mathlib.Core.List.{List, [], ◌∷◌, ◌++◌, map}
use lib.Dec.{leb, eqb}
use lib.ListN.{get_or, take, drop, length, replicate}
use lib.IntN.{ℤ, pos, negsuc}
use native.Mathlib.Omega.{arith}
use borrow.Author.Tests.{le-leb}
use Rattle.model.specs.declared.Ty.{Ty}
use Rattle.model.specs.Values.{Outcome, gives}
use Rattle.model.specs.Bytes.{value_bytes}
use Rattle.model.specs.Values.{bool}
use Rattle.model.specs.Expressions.{Read, bad, got, Exp, literal, matched, two, expression, value_of}
use Rattle.model.specs.declared.Token.{Token}
use Rattle.model.specs.Network.{Net, box, State, vars}
use Rattle.model.specs.NetworkFile.{Stretch, good, next, or_refuse, by_verdict}
use Rattle.model.specs.States.{read_tokens, state_size, state_fits, state_in}
use Rattle.model.specs.Rules.{any, send}
use Rattle.model.specs.Cycles as C
use Rattle.model.specs.Cycles.{Mark, quiet, attempt, or_else, mark, finding}
use Rattle.model.specs.Calls.{Answer, marks, idle, spent, refused, roomy, held, with_tokens, no_marks, marks_of, check_call, body_call, load_call, mark_call, cycle_call, run_call, write_call}
use Rattle.model.specs.Printing.{printed}
use Rattle.model.specs.Opened.{opened}

-- ── the workbook's files ─────────────────────────────────────────────────────────────────────

-- INC, both of its wires of capacity c
unfoldable inc : ℕ → List ℕ
inc c = 1 ∷ 0 ∷ 3 ∷ 1 ∷ 8 ∷ c ∷ 1 ∷ 0 ∷ 3 ∷ 1 ∷ 8 ∷ c ∷ 2 ∷ 0 ∷ 5 ∷ 1 ∷ 1 ∷ 0 ∷ 0 ∷ 1 ∷ 3 ∷ 0 ∷ 19 ∷ 1 ∷ 0 ∷ 0 ∷ 1 ∷ 0 ∷ 0 ∷ 0 ∷ 1 ∷ 1 ∷ 10 ∷ 1 ∷ 0 ∷ 0 ∷ 1 ∷ 8 ∷ 0 ∷ 0 ∷ 0 ∷ 1 ∷ 4 ∷ 0 ∷ 1 ∷ 0 ∷ 5 ∷ 0 ∷ 3 ∷ 1 ∷ 0 ∷ 8 ∷ []

-- the tokens 1, 2, 127
unfoldable three : List ℕ
three = 32 ∷ 0 ∷ 15 ∷ 0 ∷ 0 ∷ 0 ∷ 0 ∷ 1 ∷ 0 ∷ 0 ∷ 0 ∷ 0 ∷ 2 ∷ 0 ∷ 0 ∷ 0 ∷ 0 ∷ 127 ∷ []

-- a box wired to itself through capacity 1, reading and writing in its one rule
unfoldable loop : List ℕ
loop = 1 ∷ 0 ∷ 3 ∷ 1 ∷ 8 ∷ 1 ∷ 2 ∷ 0 ∷ 5 ∷ 1 ∷ 1 ∷ 0 ∷ 0 ∷ 0 ∷ 3 ∷ 0 ∷ 19 ∷ 1 ∷ 0 ∷ 0 ∷ 1 ∷ 0 ∷ 0 ∷ 0 ∷ 1 ∷ 1 ∷ 10 ∷ 1 ∷ 0 ∷ 0 ∷ 1 ∷ 8 ∷ 0 ∷ 0 ∷ 0 ∷ 1 ∷ []

-- an input wired to an output, bool, capacity and room 1; no tokens
unfoldable through : List ℕ
through = 1 ∷ 0 ∷ 3 ∷ 0 ∷ 1 ∷ 1 ∷ 4 ∷ 0 ∷ 1 ∷ 0 ∷ 5 ∷ 0 ∷ 3 ∷ 0 ∷ 0 ∷ 1 ∷ []

-- a box that sends its first variable and swaps the two, 1 and 2 at the start
unfoldable swap : List ℕ
swap = 1 ∷ 0 ∷ 3 ∷ 2 ∷ 8 ∷ 1 ∷ 2 ∷ 0 ∷ 16 ∷ 0 ∷ 1 ∷ 2 ∷ 0 ∷ 2 ∷ 8 ∷ 0 ∷ 0 ∷ 0 ∷ 1 ∷ 2 ∷ 8 ∷ 0 ∷ 0 ∷ 0 ∷ 2 ∷ 3 ∷ 0 ∷ 18 ∷ 0 ∷ 0 ∷ 0 ∷ 0 ∷ 1 ∷ 0 ∷ 0 ∷ 0 ∷ 1 ∷ 1 ∷ 2 ∷ 0 ∷ 1 ∷ 2 ∷ 1 ∷ 1 ∷ 2 ∷ 0 ∷ 5 ∷ 0 ∷ 3 ∷ 0 ∷ 0 ∷ 4 ∷ []

unfoldable none_for_one : List ℕ
none_for_one = 32 ∷ 0 ∷ 0 ∷ []

-- a box whose one guard asks whether 1 / 0 is 0
unfoldable by_zero : List ℕ
by_zero = 2 ∷ 0 ∷ 3 ∷ 0 ∷ 0 ∷ 0 ∷ 3 ∷ 0 ∷ 23 ∷ 20 ∷ 13 ∷ 0 ∷ 1 ∷ 2 ∷ 0 ∷ 0 ∷ 0 ∷ 1 ∷ 0 ∷ 1 ∷ 2 ∷ 0 ∷ 0 ∷ 0 ∷ 0 ∷ 0 ∷ 1 ∷ 2 ∷ 0 ∷ 0 ∷ 0 ∷ 0 ∷ []

-- a box with a rule that is always ready, before such a rule
unfoldable first_ready : List ℕ
unfolding by_zero
first_ready = 2 ∷ 0 ∷ 3 ∷ 0 ∷ 0 ∷ 0 ∷ 3 ∷ 0 ∷ 7 ∷ 0 ∷ 0 ∷ 1 ∷ 0 ∷ 0 ∷ 0 ∷ 1 ∷ drop 6 by_zero

-- a box without rules, then two such boxes
unfoldable two_by_zero : List ℕ
unfolding by_zero
two_by_zero = 2 ∷ 0 ∷ 3 ∷ 0 ∷ 0 ∷ 0 ∷ (by_zero ++ by_zero)

-- ── what a row shows ─────────────────────────────────────────────────────────────────────────

data Shown : Type 0 where
  sets : List Answer → Shown
  answers : Answer → Shown
  works : Outcome → Shown
  unread : Shown
  prints : List ℕ → Shown
  lies : Stretch → Shown

record Row : Type 0 where
  shown : Shown
  stated : Shown

-- the state's bytes after a load over n bytes of old contents
unfoldable start : List ℕ → List ℕ → ℕ → List ℕ
unfolding opened
start s ts n = (load_call s ts (replicate n 170)).bytes

-- what is marked in the first c cycles from a state
unfoldable history : List ℕ → List ℕ → ℕ → List ℕ → List Answer
unfolding opened
history s ts zero st = []
history s ts (suc c) st = (mark_call s ts st).answer ∷ history s ts c (run_call s ts st 1).bytes

-- a run of budget b from a load over n bytes
unfoldable ran : List ℕ → List ℕ → ℕ → ℕ → Answer
unfolding opened start
ran s ts n b = (run_call s ts (start s ts n) b).answer

unfoldable signed : ℕ → Ty
signed p = record { kind = 1; p = p }

unfoldable unsigned : ℕ → Ty
unsigned p = record { kind = 2; p = p }

-- what a marking answers where nothing is marked: no process, or the refusal of bytes that hold no state
unfoldable unmarked : List ℕ → List ℕ → List ℕ → Answer
unfolding opened
unmarked s ts st = by_verdict (next (with_tokens s ts) (held true st)) (λ h. marks 0) (λ n p. refused n p 0)

-- the bytes of a literal
unfoldable lit : Ty → ℤ → List ℕ
unfolding opened
lit t z = 0 ∷ t.kind ∷ t.p ∷ value_bytes z

-- its value, where it is an expression
unfoldable value_read : Read Exp → Shown
unfolding opened
value_read bad = unread
value_read (got e n) = works (value_of (record { scope = record { ins = []; vars = [] }; ins = []; vars = [] }) e)

-- the expression in bytes, worked out
unfoldable worked : List ℕ → Shown
unfolding value_read opened
worked b = value_read (expression b)

-- an operator over two literals of one type
unfoldable calc : ℕ → Ty → ℤ → ℤ → Shown
unfolding worked lit
calc o t a b = worked (o ∷ (lit t a ++ lit t b))

-- ── P11: nothing is marked, whatever bytes are lent ──────────────────────────────────────────

-- the network of that file
unfoldable looped : Net
looped = record {
  wires = record { ty = signed 8; capacity = 1 } ∷ [];
  procs = box (record { ins = 0 ∷ []; outs = 0 ∷ []; vars = []; rules = record { ins = any 0 ∷ []; vars = []; guard = literal bool (pos 1); outs = send 0 (two 10 (matched 0) (literal (signed 8) (pos 1))) ∷ []; sets = [] } ∷ [] }) ∷ [];
}

looped_is : with_tokens loop [] ≡ good looped
unfolding loop looped signed opened
looped_is = refl

-- a state of it, with this queue on its wire
unfoldable holding : List Token → State
holding q = record { queues = q ∷ []; owns = vars [] ∷ [] }

-- a rule whose written output is full isn't fireable, whatever waits
shut : (ready full : Bool) (m : Mark) → full ≡ true → attempt ((ready && true) && true && (not (true && full) && true)) m ≡ quiet
unfolding attempt
shut true true m e = refl
shut true false m e = cc
shut false full m e = refl

-- its wire is empty, or holds a token and so is full
loop_quiet : (q : List Token) → mark looped (holding q) 0 ≡ quiet
unfolding looped holding signed opened
loop_quiet [] = refl
loop_quiet (t ∷ ts) = ap (λ (m : Mark). or_else m quiet) (shut (eqb 0 t.tag) (leb 1 (length (t ∷ ts))) _ (le-leb 1 (length (t ∷ ts)) (omega arith)))

-- and so nothing is marked in it
none_found : (q : List Token) → finding looped (holding q) ≡ C.still
unfolding looped finding C.fault_in C.blame C.processes C.up_from C.any_mark C.marked_of C.marked_from C.marked C.keep_if
none_found q = rw (loop_quiet q) refl

none_set : (q : List Token) → C.marked_set looped (holding q) ≡ 0
unfolding looped C.processes C.up_from C.marked_set C.marked_of C.marked_from C.marked C.keep_if C.bits
none_set q = rw (loop_quiet q) refl

none_marked : (q : List Token) → (marks_of looped (holding q) (finding looped (holding q))).answer ≡ marks 0
unfolding marks_of
none_marked q = rw (none_found q, none_set q) refl

-- so a marking answers 0, or refuses the lent bytes
by_checks : (st : List ℕ) (n : Net) (room fit : Bool) → leb (state_size n) (length st) ≡ room → state_fits n true st ≡ fit → (marks_of n (state_in n st) (finding n (state_in n st))).answer ≡ marks 0 →
    (by_verdict (held true st n) (λ h. marks_of h.net h.state (finding h.net h.state)) (λ k p. no_marks (refused k p 0))).answer
    ≡ by_verdict (held true st n) (λ h. marks 0) (λ k p. refused k p 0)
unfolding held roomy next or_refuse by_verdict no_marks
by_checks st n true true r f e = rw (r, f) e
by_checks st n true false r f e = rw (r, f) refl
by_checks st n false fit r f e = rw r refl

state_is : (st : List ℕ) → state_in looped st ≡ holding (read_tokens (get_or (take 6 st) 0 0) (drop 1 (take 6 st)))
unfolding looped holding opened
state_is st = refl

never_marked : (st : List ℕ) → (mark_call loop [] st).answer ≡ unmarked loop [] st
unfolding unmarked mark_call next
never_marked st = rw looped_is (by_checks st looped _ _ refl refl (rw (state_is st) (none_marked _)))

-- ── P1 to P12 ────────────────────────────────────────────────────────────────────────────────

-- the rows that compute
unfoldable rows : List Row
unfolding inc three loop swap by_zero first_ready start history ran signed unsigned lit worked calc opened
rows =
    -- P1, INC marks 2, 1, 6, 1, 6, 1, 4 in cycles 1 to 7; then nothing
    record { shown = sets (history (inc 1) three 8 (start (inc 1) three 56)); stated = sets (map marks (2 ∷ 1 ∷ 6 ∷ 1 ∷ 6 ∷ 1 ∷ 4 ∷ 0 ∷ [])) }
    -- P2, with both capacities 2 it is idle after 5, and its third cycle marks 7
    ∷ record { shown = answers (ran (inc 2) three 66 1000); stated = answers (idle 5) }
    ∷ record { shown = sets (history (inc 2) three 3 (start (inc 2) three 66)); stated = sets (map marks (2 ∷ 3 ∷ 7 ∷ [])) }
    -- P3, budget 6 answers spent, budget 7 idle
    ∷ record { shown = answers (ran (inc 1) three 56 6); stated = answers (spent 6) }
    ∷ record { shown = answers (ran (inc 1) three 56 7); stated = answers (idle 7) }
    -- P4, -7 / 2 = -3 and -7 mod 2 = -1
    ∷ record { shown = calc 13 (signed 8) (negsuc 6) (pos 2); stated = works (gives (signed 8) (negsuc 2)) }
    ∷ record { shown = calc 14 (signed 8) (negsuc 6) (pos 2); stated = works (gives (signed 8) (negsuc 0)) }
    -- P5, signed 8: -128 / -1 = -128
    ∷ record { shown = calc 13 (signed 8) (negsuc 127) (negsuc 0); stated = works (gives (signed 8) (negsuc 127)) }
    -- P6, unsigned 4: 15 + 1 = 0, 0 - 1 = 15
    ∷ record { shown = calc 10 (unsigned 4) (pos 15) (pos 1); stated = works (gives (unsigned 4) (pos 0)) }
    ∷ record { shown = calc 11 (unsigned 4) (pos 0) (pos 1); stated = works (gives (unsigned 4) (pos 15)) }
    -- P7, signed 4: 7 * 7 = 1
    ∷ record { shown = calc 12 (signed 4) (pos 7) (pos 7); stated = works (gives (signed 4) (pos 1)) }
    -- P8, signed 8: -2 >> 1 = 127
    ∷ record { shown = worked (19 ∷ (lit (signed 8) (negsuc 1) ++ lit (unsigned 5) (pos 1))); stated = works (gives (signed 8) (pos 127)) }
    -- P9, unsigned 4: 12 lnand 10 = 7
    ∷ record { shown = calc 17 (unsigned 4) (pos 12) (pos 10); stated = works (gives (unsigned 4) (pos 7)) }
    -- P10, cast of signed 8 -1 to unsigned 4 = 15
    ∷ record { shown = worked (3 ∷ 2 ∷ 4 ∷ lit (signed 8) (negsuc 0)); stated = works (gives (unsigned 4) (pos 15)) }
    -- P11 in two states: the wire of the box wired to itself empty, and full
    ∷ record { shown = sets (history loop [] 1 (start loop [] 6) ++ history loop [] 1 (1 ∷ 0 ∷ 0 ∷ 0 ∷ 0 ∷ 5 ∷ [])); stated = sets (map marks (0 ∷ 0 ∷ [])) }
    -- P12, the empty network is idle after 0
    ∷ record { shown = answers (ran [] [] 0 1000); stated = answers (idle 0) }
    -- and what the run program prints for INC
    ∷ record { shown = prints (printed (inc 1) three); stated = prints (111 ∷ 117 ∷ 116 ∷ 99 ∷ 111 ∷ 109 ∷ 101 ∷ 32 ∷ 105 ∷ 100 ∷ 108 ∷ 101 ∷ 32 ∷ 99 ∷ 121 ∷ 99 ∷ 108 ∷ 101 ∷ 115 ∷ 32 ∷ 55 ∷ 10 ∷ 111 ∷ 117 ∷ 116 ∷ 32 ∷ 48 ∷ 58 ∷ 32 ∷ 50 ∷ 32 ∷ 51 ∷ 32 ∷ 45 ∷ 49 ∷ 50 ∷ 56 ∷ 10 ∷ []) }
    -- all actions use the variables' values from before the firing
    ∷ record { shown = prints (printed swap []); stated = prints (111 ∷ 117 ∷ 116 ∷ 99 ∷ 111 ∷ 109 ∷ 101 ∷ 32 ∷ 105 ∷ 100 ∷ 108 ∷ 101 ∷ 32 ∷ 99 ∷ 121 ∷ 99 ∷ 108 ∷ 101 ∷ 115 ∷ 32 ∷ 57 ∷ 10 ∷ 111 ∷ 117 ∷ 116 ∷ 32 ∷ 48 ∷ 58 ∷ 32 ∷ 49 ∷ 32 ∷ 50 ∷ 32 ∷ 49 ∷ 32 ∷ 50 ∷ 10 ∷ []) }
    -- the first rule that is ready is chosen, and no guard behind it is worked out
    ∷ record { shown = answers (ran first_ready [] 0 3); stated = answers (spent 3) }
    ∷ []

-- all rows, for any bytes st that may be lent: P11, the box wired to itself is never marked, whatever state they hold, and so in none that is reached
unfoldable table : List ℕ → List Row
table st = record { shown = answers (mark_call loop [] st).answer; stated = answers (unmarked loop [] st) } ∷ rows

-- the one statement: every row shows what the workbook writes
workbook : (st : List ℕ) → map (λ (r : Row). r.shown) (table st) ≡ map (λ (r : Row). r.stated) (table st)
unfolding table rows
workbook st = ap (λ (a : Answer). answers a ∷ map (λ (r : Row). r.stated) rows) (never_marked st)

-- ── a smallest argument for each refusal number, with its place ──────────────────────────────

unfoldable refusals : List Row
unfolding inc through none_for_one by_zero two_by_zero start opened
refusals =
    -- 1, a field cut short
    record { shown = answers (check_call (1 ∷ [])); stated = answers (refused 1 0 0) }
    -- 2, a budget of 65,536; a wire with p = 0
    ∷ record { shown = answers (run_call [] [] [] 65536).answer; stated = answers (refused 2 0 0) }
    ∷ record { shown = answers (check_call (1 ∷ 0 ∷ 3 ∷ 1 ∷ 0 ∷ 1 ∷ [])); stated = answers (refused 2 0 0) }
    -- 3, a wire without ports
    ∷ record { shown = answers (check_call (1 ∷ 0 ∷ 3 ∷ 1 ∷ 8 ∷ 1 ∷ [])); stated = answers (refused 3 0 0) }
    -- 4, a bool with p = 2
    ∷ record { shown = answers (check_call (1 ∷ 0 ∷ 3 ∷ 0 ∷ 2 ∷ 1 ∷ [])); stated = answers (refused 4 0 0) }
    -- 5, a byte where no field is asked for; a missing field
    ∷ record { shown = answers (load_call [] (0 ∷ []) []).answer; stated = answers (refused 5 0 0) }
    ∷ record { shown = answers (load_call (inc 1) [] []).answer; stated = answers (refused 5 0 0) }
    -- 6, no state lent, 15 bytes needed; no output buffer lent, 3 bytes needed
    ∷ record { shown = answers (load_call through none_for_one []).answer; stated = answers (refused 6 15 0) }
    ∷ record { shown = answers (write_call through (start through none_for_one 15) []).answer; stated = answers (refused 6 3 0) }
    -- 7, two tokens on a wire of capacity 1
    ∷ record { shown = answers (mark_call through none_for_one (2 ∷ replicate 14 0)).answer; stated = answers (refused 7 0 0) }
    -- 8, an order that names a process where none is marked
    ∷ record { shown = answers (cycle_call [] [] [] (0 ∷ [])).answer; stated = answers (refused 8 0 0) }
    -- 9, a zero divisor in a guard
    ∷ record { shown = answers (run_call by_zero [] [] 1000).answer; stated = answers (refused 9 0 0) }
    -- and where boxes 1 and 2 both meet one, the lowest of them is named
    ∷ record { shown = answers (run_call two_by_zero [] [] 1000).answer; stated = answers (refused 9 1 0) }
    ∷ []

refusal_examples : map (λ (r : Row). r.shown) refusals ≡ map (λ (r : Row). r.stated) refusals
unfolding refusals
refusal_examples = refl

-- ── two refusals due: the earlier of document 01's order ─────────────────────────────────────

-- an answer, and the number and the place that are due
unfoldable due : Answer → ℕ → ℕ → Row
due a n p = record { shown = answers a; stated = answers (refused n p 0) }

unfoldable in_order : List Row
unfolding through none_for_one by_zero due opened
in_order =
    -- check: a wire of an unknown kind with p = 0 (1 before 2)
    due (check_call (1 ∷ 0 ∷ 3 ∷ 5 ∷ 0 ∷ 1 ∷ [])) 1 0
    -- rule_body: a wire without ports, and a box with its rule: the network is refused before the rule is looked up
    ∷ record { shown = lies (body_call (1 ∷ 0 ∷ 3 ∷ 1 ∷ 8 ∷ 1 ∷ by_zero) 0 0); stated = lies (record { start = 38; len = 0 }) }
    -- load: a byte after the field of the one input, no byte of 15 lent (5 before 6)
    ∷ due (load_call through (none_for_one ++ (0 ∷ [])) []).answer 5 3
    -- mark: one byte of 15 lent, two tokens on a wire of capacity 1 (6 before 7)
    ∷ due (mark_call through none_for_one (2 ∷ [])).answer 6 15
    -- cycle: a fault, and an order that names the box, which is not marked (9 before 8)
    ∷ due (cycle_call by_zero [] [] (0 ∷ [])).answer 9 0
    -- run: a budget of 65,536, a field cut short (2 before 1)
    ∷ due (run_call (1 ∷ []) [] [] 65536).answer 2 0
    -- write_outputs: two tokens on a wire of capacity 1, no byte of 3 lent for the file (7 before 6)
    ∷ due (write_call through (2 ∷ replicate 14 0) []).answer 7 0
    ∷ []

refusals_in_order : map (λ (r : Row). r.shown) in_order ≡ map (λ (r : Row). r.stated) in_order
unfolding in_order
refusals_in_order = refl

-- and the length of a file before its fields, which are of unknown tags here
length_first : check_call (replicate 16385 9) ≡ refused 2 0 0
unfolding opened
length_first = refl
