-- The ways out of writing the outputs.
-- Assumes nothing.
use mathlib.Core.Path.{◌≡◌, refl, ap}
use mathlib.Core.Bool.{false}
use mathlib.Core.List.{List, [], ◌∷◌, ◌++◌}
use Prim.Native.Nat.{ℕ, ◌≤◌, ◌<◌}
use native.Mathlib.Omega.{arith}
use lib.ListN.{length, drop}
use borrow.Author.Tests.{le-leb, lt-leb}
use Rattle.std.specs.Prelude.{Err}
use Rattle.model.specs.declared.Ty.{Ty}
use Rattle.model.specs.declared.Refusal.{Refusal}
use Rattle.model.specs.Network.{Net}
use Rattle.model.specs.NetworkFile.{good, next, or_refuse, by_verdict, network, field_at, net_of}
use Rattle.model.specs.States.{tokens_from, token_file, input_tokens, state_size, state_in, output_file}
use Rattle.model.specs.Calls.{After, written, refused, refusal, said_write, keeps, without_tokens, roomy, held, file_in, write_call}
use Rattle.table.specs.declared.Counts.{Counts}
use Rattle.table.specs.Table.{index_in}
use Rattle.lookup.specs.Views.{network_of}
use Rattle.places.specs.declared.Plan.{Plan}
use Rattle.places.specs.Standing.{bare_net, found, tokens_of, net_in}
use Rattle.states.specs.Saved.{Holds}
use Rattle.opening.specs.Opening.{Refuses}
use Rattle.bench.specs.Afters.{after, write_in}

-- an empty token file has no tokens
none_found : (types : List Ty) → found (token_file types []) ≡ []
unfolding found token_file tokens_from or_refuse next input_tokens field_at
none_found [] = refl
none_found (t ∷ ts) = refl

pub no_tokens_lem : (s t : List ℕ) (c : Counts) → net_in s t c [] ≡ bare_net s t c
unfolding net_in bare_net tokens_of
no_tokens_lem s t c = ap (net_of s (index_in t c)) (none_found _)

-- ── once the network file is accepted ────────────────────────────────────────────────────────

module _ (n : Net) (st out : List ℕ) where
  abbrev file : List ℕ
  file = output_file n (state_in n st)

  pub not_held : (x : Refusal) → Refuses (held false st n) x → after (said_write (Err x)) out ≡ write_in n st out
  unfolding said_write after refusal write_in next by_verdict keeps
  not_held x h = rw h refl

  module _ (h : Holds n false st) (bytes : ℕ) (f : bytes ≡ length file) where
    is_held : held false st n ≡ good (record { net = n; state = state_in n st })
    unfolding held roomy or_refuse next
    is_held = rw (le-leb (state_size n) (length st) h.long, h.fits) refl

    pub out_short : length out < bytes → after (refused 6 bytes 0) out ≡ write_in n st out
    unfolding after write_in file_in or_refuse next by_verdict keeps
    out_short l = rw (is_held, ← f, lt-leb bytes (length out) l) refl

    pub wrote : (last : List ℕ) → bytes ≤ length out → last ≡ file ++ drop (length file) out → after (written bytes) last ≡ write_in n st out
    unfolding after write_in file_in or_refuse next by_verdict
    wrote last l q = rw (is_held, q, f, le-leb (length file) (length out) (omega (arith, l, f))) refl

-- ── the call ─────────────────────────────────────────────────────────────────────────────────

pub write-refused : (s st out : List ℕ) (x : Refusal) → Refuses (network s) x → after (said_write (Err x)) out ≡ write_call s st out
unfolding said_write after refusal write_call without_tokens next by_verdict keeps
write-refused s st out x h = rw h refl

pub write_open : (s st out : List ℕ) (p : Plan) → p.net.file.now ≡ s → (a : After) → a ≡ write_in (network_of p.net) st out → a ≡ write_call s st out
unfolding write_in write_call without_tokens next after
write_open s st out p h a e = rw (← h) (rw p.net.tabled.found e)
