-- How tight the contracts are: two answers, with the lent bytes, that both meet a call's contract are equal.
-- Assumes nothing.
use mathlib.Core.Path.{◌≡◌, refl, sym, ap, ap₂, ◌∙◌}
use mathlib.Core.Bool.{cond}
use mathlib.Core.List.{List}
use Prim.Native.Nat.{ℕ}
use lib.Dec.{eqb}
use denote.Ref.{Bor}
use Rattle.std.specs.Prelude.{Result, Ok, Err, ⊤}
use Rattle.model.specs.declared.Fault.TheVariants.{ZeroDivisor}
use Rattle.model.specs.declared.Reason.{Reason}
use Rattle.model.specs.declared.Reason.TheVariants.{Form, Limits, Ports, Types, Tokens, Space, State, Order, Fault}
use Rattle.model.specs.declared.Refusal.{Refusal}
use Rattle.model.specs.declared.Marked.{Marked}
use Rattle.model.specs.declared.Turn.{Turn}
use Rattle.model.specs.declared.Turn.TheVariants as turn
use Rattle.model.specs.declared.Ran.{Ran}
use Rattle.model.specs.declared.Ending.{Ending}
use Rattle.model.specs.declared.Ending.TheVariants as ending
use Rattle.model.specs.Reasons.{fault_number, reason_number}
use Rattle.model.specs.Calls.{Answer, After, Marking, mark_call, refusal, said_check, said_load, said_mark, said_cycle, said_ending, said_run, said_write, check_call, body_call, load_call, cycle_call, run_call, write_call}
use Rattle.octets.specs.Part.{PartOf}
use Rattle.bench.specs.Afters.{after, marked_as, begun, begins}

-- ── what is said determines the answer ───────────────────────────────────────────────────────

-- a reason from its number
reason_of : ℕ → Reason
reason_of n =
    cond (eqb n 1) Form
    (cond (eqb n 2) Limits
    (cond (eqb n 3) Ports
    (cond (eqb n 4) Types
    (cond (eqb n 5) Tokens (cond (eqb n 6) Space (cond (eqb n 7) State (cond (eqb n 8) Order (Fault ZeroDivisor))))))))

told_apart : (r : Reason) → reason_of (reason_number r) ≡ r
unfolding reason_of reason_number fault_number
told_apart Form = refl
told_apart Limits = refl
told_apart Ports = refl
told_apart Types = refl
told_apart Tokens = refl
told_apart Space = refl
told_apart State = refl
told_apart Order = refl
told_apart (Fault ZeroDivisor) = refl

refusal_one : (x y : Refusal) → refusal x ≡ refusal y → x ≡ y
unfolding refusal
refusal_one x y e =
    let n : reason_number x.reason ≡ reason_number y.reason = cc in
    let p : x.place ≡ y.place = cc in
    ap₂ (λ (r : Reason) (j : ℕ). record { reason = r; place = j }) (sym (told_apart x.reason) ∙ ap reason_of n ∙ told_apart y.reason) p

pub check_one : (r q : Result ⊤ Refusal) → said_check r ≡ said_check q → r ≡ q
unfolding said_check refusal
check_one (Ok a) (Ok b) e = refl
check_one (Ok a) (Err y) e = cc
check_one (Err x) (Ok b) e = cc
check_one (Err x) (Err y) e = ap Err (refusal_one x y e)

pub load_one : (r q : Result ℕ Refusal) → said_load r ≡ said_load q → r ≡ q
unfolding said_load refusal
load_one (Ok a) (Ok b) e = cc
load_one (Ok a) (Err y) e = cc
load_one (Err x) (Ok b) e = cc
load_one (Err x) (Err y) e = ap Err (refusal_one x y e)

pub mark_one : (r q : Result ℕ Refusal) → said_mark r ≡ said_mark q → r ≡ q
unfolding said_mark refusal
mark_one (Ok a) (Ok b) e = cc
mark_one (Ok a) (Err y) e = cc
mark_one (Err x) (Ok b) e = cc
mark_one (Err x) (Err y) e = ap Err (refusal_one x y e)

pub cycle_one : (r q : Result Turn Refusal) → said_cycle r ≡ said_cycle q → r ≡ q
unfolding said_cycle refusal
cycle_one (Ok turn.Done) (Ok turn.Done) e = refl
cycle_one (Ok turn.Done) (Ok turn.Idle) e = cc
cycle_one (Ok turn.Done) (Err y) e = cc
cycle_one (Ok turn.Idle) (Ok turn.Done) e = cc
cycle_one (Ok turn.Idle) (Ok turn.Idle) e = refl
cycle_one (Ok turn.Idle) (Err y) e = cc
cycle_one (Err x) (Ok turn.Done) e = cc
cycle_one (Err x) (Ok turn.Idle) e = cc
cycle_one (Err x) (Err y) e = ap Err (refusal_one x y e)

pub write_one : (r q : Result ℕ Refusal) → said_write r ≡ said_write q → r ≡ q
unfolding said_write refusal
write_one (Ok a) (Ok b) e = cc
write_one (Ok a) (Err y) e = cc
write_one (Err x) (Ok b) e = cc
write_one (Err x) (Err y) e = ap Err (refusal_one x y e)

ran : Ending → ℕ → Ran
ran e c = record { ending = e; cycles = c }

ending_one : (e f : Ending) (c d : ℕ) → said_ending e c ≡ said_ending f d → ran e c ≡ ran f d
unfolding said_ending
ending_one ending.Idle ending.Idle c d e = cc
ending_one ending.Idle ending.Spent c d e = cc
ending_one ending.Idle (ending.Fault m b) c d e = cc
ending_one ending.Spent ending.Idle c d e = cc
ending_one ending.Spent ending.Spent c d e = cc
ending_one ending.Spent (ending.Fault m b) c d e = cc
ending_one (ending.Fault n a) ending.Idle c d e = cc
ending_one (ending.Fault n a) ending.Spent c d e = cc
ending_one (ending.Fault ZeroDivisor a) (ending.Fault ZeroDivisor b) c d e = cc

-- of a run: whether it began tells a fault from a refusal before it
pub run_one : (r q : Result Ran Refusal) → begun r ≡ begun q → said_run r ≡ said_run q → r ≡ q
unfolding said_run begun ran
run_one (Ok a) (Ok b) h i = ap Ok (ending_one a.ending b.ending a.cycles b.cycles i)
run_one (Ok a) (Err y) h i = cc
run_one (Err x) (Ok b) h i = cc
run_one (Err x) (Err y) h i = ap Err (refusal_one x y i)

-- ── the calls ────────────────────────────────────────────────────────────────────────────────

answers_same : (a b : Answer) (u v : List ℕ) → after a u ≡ after b v → a ≡ b
unfolding after
answers_same a b u v e = ap (λ (x : After). x.answer) e

bytes_same : (a b : Answer) (u v : List ℕ) → after a u ≡ after b v → u ≡ v
unfolding after
bytes_same a b u v e = ap (λ (x : After). x.bytes) e

pub check_tight : (s : List ℕ) (r q : Result ⊤ Refusal) → said_check r ≡ check_call s → said_check q ≡ check_call s → r ≡ q
check_tight s r q e f = check_one r q (e ∙ sym f)

-- the same memory, and the same bytes
pub body_tight : (net x y : Bor (List ℕ)) (b k : ℕ) → PartOf net (body_call net.now b k).start (body_call net.now b k).len x →
    PartOf net (body_call net.now b k).start (body_call net.now b k).len y → (x.ref_ptr ≡ y.ref_ptr) × (x.now ≡ y.now)
body_tight net x y b k e f = (ap₂ (λ (i j : ℕ). (i, j)) (e.block ∙ sym f.block) (e.place ∙ sym f.place), e.bytes ∙ sym f.bytes)

pub load_tight : (s ts st u v : List ℕ) (r q : Result ℕ Refusal) → after (said_load r) u ≡ load_call s ts st → after (said_load q) v ≡ load_call s ts st → (r ≡ q) × (u ≡ v)
load_tight s ts st u v r q e f = (load_one r q (answers_same _ _ u v (e ∙ sym f)), bytes_same (said_load r) (said_load q) u v (e ∙ sym f))

pub write_tight : (s st out u v : List ℕ) (r q : Result ℕ Refusal) → after (said_write r) u ≡ write_call s st out → after (said_write q) v ≡ write_call s st out → (r ≡ q) × (u ≡ v)
write_tight s st out u v r q e f = (write_one r q (answers_same _ _ u v (e ∙ sym f)), bytes_same (said_write r) (said_write q) u v (e ∙ sym f))

pub mark_tight : (s ts b : List ℕ) (r q : Marked) → marked_as r ≡ mark_call s ts b → marked_as q ≡ mark_call s ts b → r ≡ q
unfolding marked_as
mark_tight s ts b r q e f =
    let g : marked_as r ≡ marked_as q = e ∙ sym f in
    let a : r.answer ≡ q.answer = mark_one r.answer q.answer (ap (λ (m : Marking). m.answer) g) in
    let k : r.rules ≡ q.rules = ap (λ (m : Marking). m.rules) g in
    ap₂ (λ (x : Result ℕ Refusal) (y : List ℕ). record { answer = x; rules = y }) a k

pub cycle_tight : (s ts st o u v : List ℕ) (r q : Result Turn Refusal) → after (said_cycle r) u ≡ cycle_call s ts st o → after (said_cycle q) v ≡ cycle_call s ts st o → (r ≡ q) × (u ≡ v)
cycle_tight s ts st o u v r q e f = (cycle_one r q (answers_same _ _ u v (e ∙ sym f)), bytes_same (said_cycle r) (said_cycle q) u v (e ∙ sym f))

pub run_tight : (s ts st u v : List ℕ) (budget : ℕ) (r q : Result Ran Refusal) → (after (said_run r) u ≡ run_call s ts st budget) × (begun r ≡ begins s ts st budget)
    → (after (said_run q) v ≡ run_call s ts st budget) × (begun q ≡ begins s ts st budget) → (r ≡ q) × (u ≡ v)
run_tight s ts st u v budget r q e f =
    let g = e.0 ∙ sym f.0 in
    (run_one r q (e.1 ∙ sym f.1) (answers_same _ _ u v g), bytes_same (said_run r) (said_run q) u v g)
