-- The ways out of a cycle and of a run.
-- Assumes nothing.
use mathlib.Core.Path.{◌≡◌, refl}
use mathlib.Core.Bool.{true}
use mathlib.Core.List.{List}
use Prim.Native.Nat.{ℕ, ◌≤◌, ◌<◌}
use borrow.Author.Tests.{le-leb, lt-leb}
use Rattle.std.specs.Prelude.{Result, Ok, Err}
use Rattle.model.specs.declared.Reason.TheVariants as reason
use Rattle.model.specs.declared.Refusal.{Refusal}
use Rattle.model.specs.declared.Turn.{Turn}
use Rattle.model.specs.declared.Ran.{Ran}
use Rattle.model.specs.Reasons.{reason_number}
use Rattle.model.specs.NetworkFile.{or_refuse, by_verdict, next}
use Rattle.model.specs.Cycles.{finding, run}
use Rattle.model.specs.Calls.{refusal, said_cycle, said_run, keeps, leaves, with_tokens, held, cycle_of, run_of, cycle_call, run_call}
use Rattle.places.specs.Views.{net_at, state_at}
use Rattle.token_file.specs.declared.Feed.{Feed}
use Rattle.moves.specs.Moves.{Became}
use Rattle.cycling.specs.Cycling.{cycle_as, ended_as}
use Rattle.cycling.proofs.Rounds.{became_bytes}
use Rattle.opening.specs.Opening.{Refuses, OpenState}
use Rattle.opening.proofs.Laws.{whole_held}
use Rattle.bench.specs.Afters.{after, begun, begins}

pub cycle-refused : (s ts b o : List ℕ) (x : Refusal) → Refuses (next (with_tokens s ts) (held true b)) x → after (said_cycle (Err x)) b ≡ cycle_call s ts b o
unfolding after said_cycle refusal cycle_call by_verdict keeps
cycle-refused s ts b o x h = rw h refl

pub cycle_open : (s ts b o : List ℕ) (f : Feed) → OpenState s ts b f → (a : Result Turn Refusal) (b' : List ℕ)
    → cycle_as a b' ≡ cycle_of b o (net_at f.site) (state_at f.site b) (finding (net_at f.site) (state_at f.site b)) → after (said_cycle a) b' ≡ cycle_call s ts b o
unfolding after cycle_as cycle_call by_verdict
cycle_open s ts b o f h a b' e = rw (whole_held s ts b f h) e

-- what a run's contract says
abbrev Answers : List ℕ → List ℕ → List ℕ → ℕ → Result Ran Refusal → List ℕ → Type 0
Answers s ts b budget r b' = (after (said_run r) b' ≡ run_call s ts b budget) × (begun r ≡ begins s ts b budget)

pub budget_large : (s ts b : List ℕ) (budget : ℕ) → 65535 < budget → Answers s ts b budget (Err (record { reason = reason.Limits; place = 0 })) b
unfolding after said_run refusal reason_number run_call by_verdict or_refuse keeps begun begins
budget_large s ts b budget l = rw (lt-leb budget 65535 l) (refl, refl)

pub run-refused : (s ts b : List ℕ) (budget : ℕ) → budget ≤ 65535 → (x : Refusal) → Refuses (next (with_tokens s ts) (held true b)) x → Answers s ts b budget (Err x) b
unfolding after said_run refusal run_call by_verdict or_refuse keeps begun begins
run-refused s ts b budget l x h = rw (le-leb budget 65535 l, h) (refl, refl)

pub run_open : (s ts b : List ℕ) (budget : ℕ) → budget ≤ 65535 → (f : Feed) → OpenState s ts b f → (a : Ran) (b' : List ℕ)
    → (a ≡ ended_as (run (net_at f.site) budget (state_at f.site b))) × Became f.site.plan.net.file.now f.site.plan.net.table.now f.site.plan.starts.now f.site.tokens.now b f.site.plan.net.counts b' (run (net_at f.site) budget (state_at f.site b)).state
    → Answers s ts b budget (Ok a) b'
unfolding after said_run run_call run_of leaves by_verdict or_refuse begun begins ended_as
run_open s ts b budget l f h a b' e = rw (le-leb budget 65535 l, whole_held s ts b f h, e.0, became_bytes _ _ _ _ b _ b' _ e.1) (refl, refl)
