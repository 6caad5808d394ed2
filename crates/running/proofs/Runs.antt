-- What the run program prints, from what its calls answer.
-- Assumes nothing.
use Prim.Native.Nat.{ℕ, zero, suc, ◌+◌, ◌≤◌}
use mathlib.Core.Path.{◌≡◌, refl, sym, ap, ap₂, ◌∙◌, subst}
use mathlib.Core.Bool.{Bool, true, false, cond}
use mathlib.Core.List.{List, [], ◌∷◌, ◌++◌}
use native.Mathlib.Omega.{arith}
use lib.ListN.{length, drop, set, length-append, length-set}
use lib.Seq.{sets, sets-eq}
use native.Mathlib.Numerals.{add-one}
use borrow.Author.Tests.{le-leb, lt-ltb}
use Rattle.std.specs.Prelude.{Result, Ok, Err}
use Rattle.model.specs.declared.Refusal.{Refusal}
use Rattle.model.specs.declared.Ran.{Ran}
use Rattle.model.specs.Reasons.{reason_number}
use Rattle.model.specs.Network.{Net, State, loaded}
use Rattle.model.specs.NetworkFile.{Verdict, good, refuse, next, or_refuse, by_verdict}
use Rattle.model.specs.States.{bytes_of, state_size}
use Rattle.model.specs.Cycles.{Deed, Finding, broken, still, moving, finding, marked_of, cycle_in, Ended, stop, later, halt, proceed, run}
use Rattle.model.specs.Calls.{Answer, loaded_with, refused, refusal, After, said_ending, said_run, keeps, leaves, with_tokens, roomy, held, run_of, load_call, run_call}
use Rattle.model.specs.Orders.{Reached, at_load, cycled, RoundTrip}
use Rattle.model.specs.Printing.{outcome_line, output_lines, refused_line, ended_text, printed}
use Rattle.model.proofs.Decoded.{GoodNet}
use Rattle.model.proofs.Whole.{tokens_accepted}
use Rattle.model.proofs.Sizes.{state_most, few_outputs}
use Rattle.model.proofs.Kept.{GoodState, reached_good, round_trip}
use Rattle.queues.proofs.Whole.{length_bytes}
use Rattle.queues.proofs.Saved.{good_laid}
use Rattle.printing.specs.Lines.{lines_in}
use Rattle.printing.specs.Pages.{Page, page, laid_one, laid}
use Rattle.bench.specs.Afters.{after, begun, begins}
use Rattle.bench.proofs.Tight.{run_one}
use Rattle.running.specs.Texts.{refusal_of, Printed}
use Rattle.running.proofs.Bounds.{refused_most, outcome_most, state_lines_most}

-- ── a run ends in a state that is reached from the load ──────────────────────────────────────

record Ends (n : Net) (s : State) : Type 0 where
  deeds : List Deed
  reached : Reached n s deeds

halted : (f : Finding) (s : State) → (halt f s).state ≡ s
unfolding halt stop
halted (broken k x) s = refl
halted still s = refl
halted moving s = refl

one_more : (n : Net) (s : State) (rest : Ended) → Ends n s → (f : Finding) → (f ≡ moving → Ends n rest.state) → Ends n (proceed f s rest).state
unfolding proceed stop later
one_more n s rest h (broken k x) g = h
one_more n s rest h still g = h
one_more n s rest h moving g = g refl

run_ends : (n : Net) (b : ℕ) {s : State} {ds : List Deed} → Reached n s ds → Ends n (run n b s).state
unfolding run
run_ends n zero {s} {ds} r = subst (Ends n) (sym (halted (finding n s) s)) (record { deeds = ds; reached = r })
run_ends n (suc b) {s} {ds} r =
    one_more n s (run n b (cycle_in n (marked_of n s) s)) (record { deeds = ds; reached = r }) (finding n s)
    (λ e. run_ends n b (cycled (marked_of n s) r (record { calm = λ k x c. (let z : ◌≡◌ {A = ℕ} 0 1 = cc in omega arith); names = λ k. refl })))

-- ── files that are accepted ──────────────────────────────────────────────────────────────────

module _ (s ts : List ℕ) (n : Net) (e : with_tokens s ts ≡ good n) where
  abbrev ended : Ended
  ended = run n 1000 (loaded n)

  abbrev told : Ran
  told = record { ending = ended.ending; cycles = ended.cycles }

  few : state_size n ≤ 61088
  few =
      let a = tokens_accepted s ts n e in
      subst (λ (m : Net). state_size m ≤ 61088) (sym a.net) (state_most s a.index a.valid a.tokens (subst GoodNet a.net a.all))

  reached_long : {at : State} {ds : List Deed} → Reached n at ds → length (bytes_of n at) ≡ state_size n
  reached_long {at} r =
      let a = tokens_accepted s ts n e in
      length_bytes n at (good_laid n a.all at (reached_good n a.all a.one r))

  -- the bytes of a state that is reached are taken for that state
  held_back : {at : State} {ds : List Deed} → Reached n at ds → (rest : List ℕ) → next (with_tokens s ts) (held true (bytes_of n at ++ rest)) ≡ good (record { net = n; state = at })
  unfolding next held roomy or_refuse RoundTrip
  held_back {at} {ds} r rest =
      let k = round_trip s ts n e at ds rest r in
      let l : state_size n ≤ length (bytes_of n at ++ rest) = omega (arith, length-append (bytes_of n at) rest, reached_long r) in
      rw (e, le-leb (state_size n) (length (bytes_of n at ++ rest)) l, k.accepted, k.state)

  load-leaves : (st : List ℕ) (a : Answer) (b : List ℕ) → 61088 ≤ length st → after a b ≡ load_call s ts st → b ≡ bytes_of n (loaded n) ++ drop (state_size n) st
  unfolding after load_call next roomy or_refuse by_verdict leaves
  load-leaves st a b l h =
      let g : load_call s ts st ≡ leaves st n (loaded n) (loaded_with (state_size n)) = rw (e, le-leb (state_size n) (length st) (omega (arith, few))) in
      ap (λ (x : After). x.bytes) (h ∙ g)

  module _ (b rest : List ℕ) (q : b ≡ bytes_of n (loaded n) ++ rest) where
    run-leaves : run_call s ts b 1000 ≡ leaves b n ended.state (said_ending ended.ending ended.cycles)
    unfolding run_call or_refuse by_verdict run_of
    run-leaves = rw (q, held_back at_load rest)

    run-begins : begins s ts b 1000 ≡ true
    unfolding begins or_refuse by_verdict
    run-begins = rw (q, held_back at_load rest)

    -- so the run ends as the definition's
    run_answers : (b' : List ℕ) (r : Result Ran Refusal) → after (said_run r) b' ≡ run_call s ts b 1000 → begun r ≡ begins s ts b 1000 → r ≡ Ok told
    unfolding after leaves said_run begun
    run_answers b' r f g = run_one r (Ok told) (g ∙ run-begins) (ap (λ (x : After). x.answer) (f ∙ run-leaves))

    run_lines : (b' : List ℕ) (r : Result Ran Refusal) → after (said_run r) b' ≡ run_call s ts b 1000 → lines_in s ts b' ≡ output_lines 0 n.procs ended.state.owns
    unfolding after leaves lines_in by_verdict
    run_lines b' r f =
        let g : b' ≡ bytes_of n ended.state ++ drop (state_size n) b = ap (λ (x : After). x.bytes) (f ∙ run-leaves) in
        let k = run_ends n 1000 at_load in
        rw (g, held_back k.reached (drop (state_size n) b))

  printed_good : printed s ts ≡ outcome_line ended.ending ended.cycles ++ output_lines 0 n.procs ended.state.owns
  unfolding printed by_verdict ended_text
  printed_good = rw e

-- ── files that are refused ───────────────────────────────────────────────────────────────────

module _ (s ts b : List ℕ) (m p : ℕ) (e : with_tokens s ts ≡ refuse m p) where
  run_refuses : run_call s ts b 1000 ≡ keeps b (refused m p 0)
  unfolding run_call or_refuse next by_verdict
  run_refuses = rw e

  never_begins : begins s ts b 1000 ≡ false
  unfolding begins or_refuse next by_verdict
  never_begins = rw e

  printed-bad : printed s ts ≡ refused_line m p
  unfolding printed by_verdict
  printed-bad = rw e

-- ── how long the text is ─────────────────────────────────────────────────────────────────────

pub printed_most : (s ts : List ℕ) → length (printed s ts) ≤ 184275
printed_most s ts = go (with_tokens s ts) refl
  where
    go : (v : Verdict Net) → with_tokens s ts ≡ v → length (printed s ts) ≤ 184275
    go (refuse m p) e = rw (printed-bad s ts [] m p e) (omega (arith, refused_most m p))
    go (good n) e =
        let a = tokens_accepted s ts n e in
        let x : Ended = run n 1000 (loaded n) in
        let k = run_ends n 1000 at_load in
        let g = subst (λ (m : Net). GoodState m x.state) a.net (reached_good n a.all a.one k.reached) in
        let most = state_lines_most s a.index a.tokens x.state (few_outputs s a.index a.valid) (subst GoodNet a.net a.all) g in
        let same = ap (λ (m : Net). length (output_lines 0 m.procs x.state.owns)) a.net in
        rw (printed_good s ts n e) (omega (arith, length-append (outcome_line x.ending x.cycles) (output_lines 0 n.procs x.state.owns), outcome_most x.ending x.cycles, most, same))

-- a text for which there is room stands as it is
laid_sets : (x : List ℕ) (at : ℕ) (s : List ℕ) → at + length x ≤ length s → laid x (page at s) ≡ page (at + length x) (sets s at x)
unfolding laid laid_one page
laid_sets [] at s h = let e : at ≡ at + 0 = omega arith in ap (λ (j : ℕ). page j s) e
laid_sets (a ∷ x) at s h =
    let e : at + 1 + length x ≡ at + suc (length x) = omega arith in
    ap (λ (b : Bool). laid x (cond b (page (at + 1) (set s at a)) (page at s))) (lt-ltb at (length s) (omega arith))
    ∙ laid_sets x (at + 1) (set s at a) (omega (arith, length-set s at a))
    ∙ ap₂ (λ (j i : ℕ). page j (sets (set s at a) i x)) e (add-one at)

-- from the buffer's start
pub text_is : (s ts before after : List ℕ) (r : ℕ) → 184275 ≤ length before → page r after ≡ laid (printed s ts) (page 0 before) → Printed s ts before after r
unfolding page
text_is s ts before after r h e =
    let x : List ℕ = printed s ts in
    let room : length x ≤ length before = omega (arith, printed_most s ts) in
    let z : 0 + length x ≡ length x = omega arith in
    let g = e ∙ laid_sets x 0 before (omega (arith, room)) in
    let size : r ≡ length x = ap (λ (p : Page). p.at) g ∙ z in
    let bytes : after ≡ x ++ drop (length x) before = ap (λ (p : Page). p.bytes) g ∙ sets-eq x before 0 (omega (arith, room)) ∙ ap (λ (j : ℕ). x ++ drop j before) z in
    record { size = size; bytes = bytes; inside = omega (arith, size, ap (λ (l : List ℕ). length l) bytes, length-append x (drop (length x) before)) }

-- ── the text ─────────────────────────────────────────────────────────────────────────────────

-- what the calls answer: a load's answer a leaves bytes b, the run's answer r leaves b'
pub record Answers (s ts st b b' : List ℕ) (a : Answer) (r : Result Ran Refusal) : Type 0 where
  pub long : 61088 ≤ length st
  pub load : after a b ≡ load_call s ts st
  pub run : after (said_run r) b' ≡ run_call s ts b 1000
  pub begun : begun r ≡ begins s ts b 1000

module _ (s ts st b b' : List ℕ) (a : Answer) (r : Result Ran Refusal) (h : Answers s ts st b b' a r) where
  says-refused : (x : Refusal) → r ≡ Err x → refused_line (reason_number x.reason) x.place ≡ printed s ts
  unfolding begun after keeps said_run refusal
  says-refused x q = go (with_tokens s ts) refl
    where
      go : (v : Verdict Net) → with_tokens s ts ≡ v → refused_line (reason_number x.reason) x.place ≡ printed s ts
      go (good n) e =
          let f = run_answers s ts n e b (drop (state_size n) st) (load-leaves s ts n e st a b h.long h.load) b' r h.run h.begun in
          absurd (let z : ◌≡◌ {A = ℕ} 0 1 = cc in omega arith)
      go (refuse m p) e =
          let f : said_run r ≡ refused m p 0 = ap (λ (y : After). y.answer) (h.run ∙ run_refuses s ts b m p e) in
          let g : said_run (Err x) ≡ refused m p 0 = ap said_run (sym q) ∙ f in
          let i : reason_number x.reason ≡ m = cc in
          let j : x.place ≡ p = cc in
          rw (i, j) (sym (printed-bad s ts b m p e))

  pub refused_text : (x y : Refusal) → r ≡ Err x → y ≡ refusal_of r → refused_line (reason_number y.reason) y.place ≡ printed s ts
  unfolding refusal_of
  refused_text x y q e = ap (λ (z : Refusal). refused_line (reason_number z.reason) z.place) (e ∙ ap refusal_of q) ∙ says-refused x q

  pub says_ended : (x : Ran) → r ≡ Ok x → outcome_line x.ending x.cycles ++ lines_in s ts b' ≡ printed s ts
  unfolding begun
  says_ended x q = go (with_tokens s ts) refl
    where
      go : (v : Verdict Net) → with_tokens s ts ≡ v → outcome_line x.ending x.cycles ++ lines_in s ts b' ≡ printed s ts
      go (refuse m p) e = absurd (let f : true ≡ false = sym (ap begun q) ∙ h.begun ∙ never_begins s ts b m p e in let z : ◌≡◌ {A = ℕ} 0 1 = cc in omega arith)
      go (good n) e =
          let l = load-leaves s ts n e st a b h.long h.load in
          let f : Ok x ≡ Ok (told s ts n e) = sym q ∙ run_answers s ts n e b (drop (state_size n) st) l b' r h.run h.begun in
          let i : x ≡ told s ts n e = cc in
          rw (i, run_lines s ts n e b (drop (state_size n) st) l b' r h.run) (sym (printed_good s ts n e))
