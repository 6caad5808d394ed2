-- The ways out of a load.
-- Assumes nothing.
use mathlib.Core.Path.{◌≡◌, refl, sym, ap₂, ◌∙◌}
use mathlib.Core.Bool.{Bool, true, false, cond}
use mathlib.Core.List.{List, ◌++◌}
use Prim.Native.Nat.{ℕ, ◌≤◌, ◌<◌}
use native.Mathlib.Omega.{arith}
use lib.Dec.{leb}
use lib.ListN.{length, drop}
use borrow.Author.Tests.{le-leb, lt-leb}
use Rattle.std.specs.Prelude.{Err}
use Rattle.model.specs.declared.Refusal.{Refusal}
use Rattle.model.specs.Network.{Net, loaded}
use Rattle.model.specs.NetworkFile.{good, next, or_refuse, by_verdict}
use Rattle.model.specs.States.{state_size, bytes_of}
use Rattle.model.specs.Calls.{loaded_with, refused, refusal, said_load, After, keeps, leaves, with_tokens, roomy, load_call}
use Rattle.lookup.specs.Views.{index_of, network_of}
use Rattle.places.specs.Standing.{tokens_of, net_in}
use Rattle.places.specs.Views.{net_at}
use Rattle.token_file.specs.declared.Feed.{Feed}
use Rattle.states.proofs.Loads.{size_same, loaded-same}
use Rattle.opening.specs.Opening.{Refuses, OpenFiles}
use Rattle.opening.proofs.Laws.{with_tokens_lem}
use Rattle.bench.specs.Afters.{after, load_in}

-- ── once the files are accepted ──────────────────────────────────────────────────────────────

module _ (n : Net) (st : List ℕ) (size : ℕ) (e : size ≡ state_size n) where
  pub too_short : length st < size → after (refused 6 size 0) st ≡ load_in n st
  unfolding after load_in roomy or_refuse by_verdict keeps
  too_short l = rw (← e, lt-leb size (length st) l) refl

  pub long_enough : (last : List ℕ) → size ≤ length st → last ≡ bytes_of n (loaded n) ++ drop (state_size n) st → after (loaded_with size) last ≡ load_in n st
  unfolding after load_in roomy or_refuse by_verdict leaves
  long_enough last l f = rw (f, e, le-leb (state_size n) (length st) (omega (arith, l, e))) refl

-- ── the call ─────────────────────────────────────────────────────────────────────────────────

pub load-refused : (s ts st : List ℕ) (x : Refusal) → Refuses (with_tokens s ts) x → after (said_load (Err x)) st ≡ load_call s ts st
unfolding said_load after refusal load_call next by_verdict keeps
load-refused s ts st x h = rw h refl

-- a load in terms of the state's size and of its bytes
load_with : List ℕ → ℕ → List ℕ → After
load_with st size b = cond (leb size (length st)) (after (loaded_with size) (b ++ drop size st)) (keeps st (refused 6 size 0))

load_is : (n : Net) (st : List ℕ) → load_in n st ≡ load_with st (state_size n) (bytes_of n (loaded n))
unfolding load_with load_in roomy or_refuse by_verdict leaves after
load_is n st = by_bool (leb (state_size n) (length st))
  where
    by_bool : (b : Bool) →
        by_verdict (or_refuse b 6 (state_size n) (good n)) (λ n. leaves st n (loaded n) (loaded_with (state_size n))) (λ n p. keeps st (refused n p 0))
        ≡ cond b (after (loaded_with (state_size n)) (bytes_of n (loaded n) ++ drop (state_size n) st)) (keeps st (refused 6 (state_size n) 0))
    by_bool true = refl
    by_bool false = refl

tokens_apart : (f : Feed) (st : List ℕ) → load_in (network_of f.site.plan.net) st ≡ load_in (net_at f.site) st
unfolding net_in
tokens_apart f st =
    let n = f.site.plan.net in
    let y = index_of n in
    let k = tokens_of n.file.now n.table.now n.counts f.site.tokens.now in
    load_is (network_of n) st ∙ ap₂ (load_with st) (sym (size_same n.file.now y k)) (sym (loaded-same n.file.now y k)) ∙ sym (load_is (net_at f.site) st)

pub load_open : (s ts st : List ℕ) (f : Feed) → OpenFiles s ts f → (a : After) → a ≡ load_in (network_of f.site.plan.net) st → a ≡ load_call s ts st
unfolding load_in load_call next
load_open s ts st f h a e = rw (with_tokens_lem s ts f h) (e ∙ tokens_apart f st)
