-- The ways out of each step of an opening.
-- Assumes nothing.
use mathlib.Core.Path.{◌≡◌, refl, sym, ap, ap₂, ◌∙◌, subst}
use mathlib.Core.Bool.{Bool, true, false}
use mathlib.Core.List.{List}
use Prim.Native.Nat.{ℕ, ◌≤◌, ◌<◌}
use native.Mathlib.Omega.{arith}
use lib.ListN.{length}
use borrow.Author.Tests.{le-leb, lt-leb}
use Rattle.std.specs.Prelude.{Result, Ok, Err, MatchResult, IsErrAnd, ⊤}
use Rattle.std.proofs.lemmas.Result.{err_from_is_err_and}
use Rattle.model.specs.declared.Reason.TheVariants as reason
use denote.Ref.{Bor}
use Rattle.model.specs.declared.Token.{Token}
use Rattle.model.specs.declared.Refusal.{Refusal}
use Rattle.model.specs.Reasons.{reason_number}
use Rattle.model.specs.Network.{Net}
use Rattle.model.specs.NetworkFile.{Verdict, good, refuse, next, or_refuse, network, net_of}
use Rattle.model.specs.States.{token_file, input_types, state_size, state_fits}
use Rattle.model.specs.Calls.{tokened, with_tokens, roomy, held}
use Rattle.table.specs.declared.Counts.{Counts}
use Rattle.table.specs.Table.{index_in}
use Rattle.octets.proofs.Laws.{Octets}
use Rattle.lookup.specs.Tabled.{Tabled}
use Rattle.lookup.specs.Views.{index_of, network_of}
use Rattle.places.specs.declared.Plan.{Plan}
use Rattle.places.specs.Standing.{bare_net, tokens_of, net_in, state_of}
use Rattle.places.specs.Views.{net_at, state_at}
use Rattle.token_file.specs.declared.Feed.{Feed}
use Rattle.token_file.specs.Fields.{Fields, Checked}
use Rattle.states.specs.declared.Basis.{Basis}
use Rattle.states.specs.declared.Basis.TheVariants as basis
use Rattle.states.specs.Saved.{plan_of, tokens_for, network_for, counted, Holds}
use Rattle.states.proofs.Loads.{size_same}
use Rattle.opening.specs.Opening.{Over, OpenFiles, OpenState}
use Rattle.opening.specs.Filled.{OpenWith, OpenOn}

-- ── the files ────────────────────────────────────────────────────────────────────────────────

pub net_refused : (s ts : List ℕ) (n p : ℕ) → network s ≡ refuse n p → with_tokens s ts ≡ refuse n p
unfolding with_tokens next
net_refused s ts n p e = rw e refl

-- the check of the token file, whose refusal gets its reason by `map_err`, by a closure that puts it beside the place
module _ (s t ts f : List ℕ) (c : Counts) (a : Tabled s t c) (q : Result ⊤ ℕ) (r : Result ⊤ Refusal) (Q : ℕ → Refusal → Type 0) (k : Checked s t ts f c q)
    (g : (k : ℕ) (y : Refusal) → Q k y → y ≡ record { reason = reason.Tokens; place = k }) (h : MatchResult q (λ x. r ≡ Ok x) (λ k. IsErrAnd r (Q k))) where
  -- what the check of the token file answers
  abbrev filed : Verdict (List (List Token))
  filed = token_file (input_types (bare_net s t c) (bare_net s t c).procs) ts

  refused_at : (k : ℕ) → filed ≡ refuse 5 k → with_tokens s ts ≡ refuse 5 k
  unfolding with_tokens tokened next bare_net
  refused_at k d = rw (a.found, d) refl

  pub tokens_refused : (z : Refusal) → r ≡ Err z → with_tokens s ts ≡ refuse (reason_number z.reason) z.place
  unfolding reason_number
  tokens_refused z d = go q k h
    where
      go : (q : Result ⊤ ℕ) → Checked s t ts f c q → MatchResult q (λ x. r ≡ Ok x) (λ k. IsErrAnd r (Q k)) → with_tokens s ts ≡ refuse (reason_number z.reason) z.place
      go (Ok u) k h = cc
      go (Err k) e h =
          let y = err_from_is_err_and r h in
          let w : record { reason = reason.Tokens; place = k } ≡ z = let v = g k y.0 y.2 in let w = y.1 in cc in
          subst (λ (z : Refusal). with_tokens s ts ≡ refuse (reason_number z.reason) z.place) w (refused_at k e)

  pub tokens_good : (u : ⊤) → r ≡ Ok u → (filed ≡ good (tokens_of s t c ts)) × Fields s t ts f c
  tokens_good u d = go q k h
    where
      go : (q : Result ⊤ ℕ) → Checked s t ts f c q → MatchResult q (λ x. r ≡ Ok x) (λ k. IsErrAnd r (Q k)) → (filed ≡ good (tokens_of s t c ts)) × Fields s t ts f c
      go (Ok u) k h = k
      go (Err k) e h = let y = err_from_is_err_and r h in let w = y.1 in cc

module _ (s ts : List ℕ) (f : Feed) (h : OpenFiles s ts f) where
  pub with_tokens_lem : with_tokens s ts ≡ good (net_at f.site)
  unfolding with_tokens tokened next net_in
  with_tokens_lem = ap₂ with_tokens (sym h.net) (sym h.tokens) ∙ rw (f.site.plan.net.tabled.found, h.accepted) refl

-- ── the lent state ───────────────────────────────────────────────────────────────────────────

module _ (x : Basis) (p : Plan) (b : List ℕ) (size : ℕ) (o : p ≡ plan_of x) (e : size ≡ state_size (network_of p.net)) where
  size_in : size ≡ state_size (network_for x)
  size_in = e ∙ ap (λ (q : Plan). state_size (network_of q.net)) o ∙ sym (size_same (plan_of x).net.file.now (index_of (plan_of x).net) (tokens_for x))

  pub too_short : length b < size → held (counted x) b (network_for x) ≡ refuse 6 size
  unfolding held roomy or_refuse next
  too_short l = rw (← size_in, lt-leb size (length b) l) refl

  pub long_enough : size ≤ length b → state_size (network_of (plan_of x).net) ≤ length b
  long_enough l = omega (arith, l, e, ap (λ (q : Plan). state_size (network_of q.net)) o)

  module _ (r : Bool) (l : size ≤ length b) (d : r ≡ state_fits (network_for x) (counted x) b) where
    pub not_a_state : r ≡ false → held (counted x) b (network_for x) ≡ refuse 7 0
    unfolding held roomy or_refuse next
    not_a_state f = rw (← size_in, le-leb size (length b) l, ← d, f) refl

    pub a_state : r ≡ true → Holds (network_for x) (counted x) b
    a_state f = record { long = omega (arith, l, size_in); fits = sym d ∙ f }

-- ── the files and the state ──────────────────────────────────────────────────────────────────

pub files-refused : (s ts b : List ℕ) (n p : ℕ) → with_tokens s ts ≡ refuse n p → next (with_tokens s ts) (held true b) ≡ refuse n p
unfolding next
files-refused s ts b n p e = rw e refl

-- of a feed
module _ (s ts : List ℕ) (f : Feed) (h : OpenFiles s ts f) (b : List ℕ) where
  pub state_refused : (n p : ℕ) → held true b (network_for (basis.Files f)) ≡ refuse n p → next (with_tokens s ts) (held true b) ≡ refuse n p
  unfolding next net_in
  state_refused n p e = rw (with_tokens_lem s ts f h) e

  pub state_open : Holds (network_for (basis.Files f)) true b → Octets b → OpenState s ts b f
  unfolding bare_net net_in
  state_open k o =
      let plan = f.site.plan in
      record { files = h; standing = record { tabled = plan.net.tabled; placed = plan.placed; tokens = h.accepted; octets = o; long = k.long; fits = k.fits } }

-- by what the lent tables hold
module _ (s ts t p f : List ℕ) (c : Counts) (size : ℕ) (h : OpenWith s ts t p f c size) where
  with_tokens_in : with_tokens s ts ≡ good (net_in s t c ts)
  unfolding with_tokens tokened next bare_net net_in
  with_tokens_in = rw (h.net.tabled.found, h.tokens) refl

  module _ (b : List ℕ) where
    pub state_refused_in : (n p : ℕ) → held true b (net_in s t c ts) ≡ refuse n p → next (with_tokens s ts) (held true b) ≡ refuse n p
    unfolding next
    state_refused_in n p e = rw with_tokens_in e

    pub state_open_in : Holds (net_in s t c ts) true b → Octets b → OpenOn s ts t p f b c size
    state_open_in k o = record { files = h; standing = record { tabled = h.net.tabled; placed = h.net.placed; tokens = h.tokens; octets = o; long = k.long; fits = k.fits } }

-- ── a feed of what was opened ────────────────────────────────────────────────────────────────

module _ (s ts : Bor (List ℕ)) (t p f : List ℕ) (c : Counts) (d : Feed) (o : Over s ts t p f c d) where
  -- it is over the files and what the tables hold
  files_same : d.site.plan.net.file.now ≡ s.now
  files_same = ap (λ (x : Bor (List ℕ)). x.now) o.file

  tokens_same : d.site.tokens.now ≡ ts.now
  tokens_same = ap (λ (x : Bor (List ℕ)). x.now) o.tokens

  pub network_same : network_for (basis.Files d) ≡ net_in s.now t c ts.now
  unfolding net_in
  network_same =
      let n = d.site.plan.net in
      let make : List ℕ → List ℕ → Counts → List ℕ → Net = λ x y e z. net_of x (index_in y e) (tokens_of x y e z) in
      ap (λ (x : List ℕ). make x n.table.now n.counts d.site.tokens.now) files_same
      ∙ ap (λ (y : List ℕ). make s.now y n.counts d.site.tokens.now) o.table
      ∙ ap (λ (e : Counts). make s.now t e d.site.tokens.now) o.counts
      ∙ ap (λ (z : List ℕ). make s.now t c z) tokens_same

  pub feed_opened : (size : ℕ) → OpenWith s.now ts.now t p f c size → OpenFiles s.now ts.now d
  unfolding bare_net
  feed_opened size h = record { net = files_same; tokens = tokens_same; accepted = rw (files_same, o.table, o.counts, tokens_same) h.tokens }

  pub feed_stands : (size : ℕ) (b : List ℕ) → OpenOn s.now ts.now t p f b c size → OpenState s.now ts.now b d
  feed_stands size b h = record { files = feed_opened size h.files; standing = rw (files_same, o.table, o.counts, o.starts, tokens_same) h.standing }

-- what a call that goes on with a state learns
pub whole_held : (s ts b : List ℕ) (f : Feed) → OpenState s ts b f → next (with_tokens s ts) (held true b) ≡ good (record { net = net_at f.site; state = state_at f.site b })
unfolding held roomy or_refuse next state_of
whole_held s ts b f h = rw (with_tokens_lem s ts f h.files, le-leb (state_size (net_at f.site)) (length b) h.standing.long, h.standing.fits) refl
