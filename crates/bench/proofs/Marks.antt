-- The ways out of marking.
-- Assumes nothing.
use mathlib.Core.Path.{◌≡◌, ◌∙◌}
use mathlib.Core.Bool.{true}
use mathlib.Core.List.{List}
use Prim.Native.Nat.{ℕ}
use Rattle.std.specs.Prelude.{Result, Ok, Err}
use Rattle.model.specs.declared.Refusal.{Refusal}
use Rattle.model.specs.NetworkFile.{next, by_verdict}
use Rattle.model.specs.Cycles.{finding}
use Rattle.model.specs.Calls.{Marking, refusal, said_mark, no_marks, marks_of, with_tokens, held, mark_call}
use Rattle.places.specs.Views.{net_at, state_at}
use Rattle.token_file.specs.declared.Feed.{Feed}
use Rattle.marking.specs.Noted.{marking_of}
use Rattle.opening.specs.Opening.{Refuses, OpenState}
use Rattle.opening.proofs.Laws.{whole_held}
use Rattle.bench.specs.Afters.{marked_as}

-- a refusal stands beside 16 for each box
pub marks-refused : (x : Refusal) (rules : List ℕ) {m k : Marking} (a : Result ℕ Refusal) → a ≡ Err x → marking_of a rules ≡ m → k ≡ no_marks (refusal x) → k ≡ m
unfolding said_mark marking_of
marks-refused x rules a e f g = g ∙ rw e at f

pub marks_there : (s : ℕ) (rules : List ℕ) {m : Marking} (a : Result ℕ Refusal) → a ≡ Ok s → marking_of a rules ≡ m → marked_as (record { answer = Ok s; rules = rules }) ≡ m
unfolding marked_as said_mark marking_of
marks_there s rules a e f = rw e at f

pub mark-refused : (s ts b : List ℕ) (x : Refusal) → Refuses (next (with_tokens s ts) (held true b)) x → {k : Marking} → k ≡ no_marks (refusal x) → k ≡ mark_call s ts b
unfolding refusal mark_call by_verdict
mark-refused s ts b x h g = rw h g

pub mark_open : (s ts b : List ℕ) (f : Feed) → OpenState s ts b f → {m : Marking} → m ≡ marks_of (net_at f.site) (state_at f.site b) (finding (net_at f.site) (state_at f.site b)) → m ≡ mark_call s ts b
unfolding mark_call by_verdict
mark_open s ts b f h e = rw (whole_held s ts b f h) e
