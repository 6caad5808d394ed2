-- The loop over the fields: what is left of the walk gives the whole. Assumes nothing.
use Prim.Native.Nat.{ℕ, suc, ◌+◌, ◌-◌, ◌≤◌, ◌<◌}
use mathlib.Core.Path.{◌≡◌, refl, ap, ◌∙◌, sym, subst}
use mathlib.Core.List.{List}
use lib.ListN.{length}
use borrow.Author.Tests.{lt-leb, le-leb, ne_eqb}
use native.Mathlib.Omega.{arith}
use Rattle.std.specs.Prelude.{Result, Ok, Err, Some, None, MatchResult, IsErrAnd}
use Rattle.std.proofs.lemmas.Result.{err_from_is_err_and}
use Rattle.model.specs.declared.Field.{Field}
use Rattle.model.specs.declared.Fault.TheVariants.{ZeroDivisor}
use Rattle.model.specs.declared.Reason.{Reason}
use Rattle.model.specs.declared.Reason.TheVariants as reason
use Rattle.model.specs.declared.Refusal.{Refusal}
use Rattle.model.specs.Bytes.{stretch}
use Rattle.model.specs.Reasons.{fault_number, reason_number}
use Rattle.model.specs.NetworkFile.{field_at, Index, no_fields, field_fault, Verdict, good, refuse, stop, go, onward, on_field, step, walk, fields}
use Rattle.table.specs.declared.Counts.{Counts}
use Rattle.table.specs.Table.{region, index_in, Within, Noted}
use Rattle.index.specs.Verdicts.{verdict_in, Sound, Looked}
use Rattle.model.proofs.Accepted.{field_found}
use Rattle.table.proofs.Walk.{turn, stopped}

-- ── one field ────────────────────────────────────────────────────────────────────────────────

-- a reason has a number
some_number : (r : Reason) → reason_number r ≡ 0 → ⊥
unfolding reason_number fault_number
some_number reason.Form e = absurd (omega arith)
some_number reason.Limits e = absurd (omega arith)
some_number reason.Ports e = absurd (omega arith)
some_number reason.Types e = absurd (omega arith)
some_number reason.Tokens e = absurd (omega arith)
some_number reason.Space e = absurd (omega arith)
some_number reason.State e = absurd (omega arith)
some_number reason.Order e = absurd (omega arith)
some_number (reason.Fault ZeroDivisor) e = absurd (omega arith)

module _ (s : List ℕ) (x : Index) (at : ℕ) where
  pub cut : field_at s at ≡ None → Looked s x at (Err reason.Form)
  unfolding Looked on_field reason_number
  cut e = rw e refl

  module _ (f : Field) (e : field_at s at ≡ Some f) where
    pub faulty : (r : Reason) → reason_number r ≡ field_fault s x f.tag (stretch s f.start f.len) → Looked s x at (Err r)
    unfolding Looked on_field onward
    faulty r d = rw (e, ← d, ne_eqb (reason_number r) 0 (some_number r)) refl

    pub sound : 0 ≡ field_fault s x f.tag (stretch s f.start f.len) → Looked s x at (Ok f)
    unfolding Looked
    sound d = record { there = e; right = sym d }

-- a reason with the place of its field
unfoldable pub placed : ℕ → Result Field Reason → Result Field Refusal
placed at (Ok f) = Ok f
placed at (Err e) = Err (record { reason = e; place = at })

-- what `map_err` makes of such an answer, by a closure that puts the place beside the reason
pub placed_is : (at : ℕ) (q : Result Field Reason) (r : Result Field Refusal) (Q : Reason → Refusal → Type 0) → ((e : Reason) (y : Refusal) → Q e y → y ≡ record { reason = e; place = at })
    → MatchResult q (λ f. r ≡ Ok f) (λ e. IsErrAnd r (Q e)) → placed at q ≡ r
unfolding placed
placed_is at (Ok f) r Q g h = sym h
placed_is at (Err e) r Q g h = let p = err_from_is_err_and r h in sym (p.1 ∙ ap Err (g e p.0 p.2))

pub placed_sound : (s : List ℕ) (x : Index) (at : ℕ) (q : Result Field Reason) (f : Field) → Looked s x at q → placed at q ≡ Ok f → Sound s x at f
unfolding placed Looked
placed_sound s x at (Ok g) f h e = let z : g ≡ f = cc in subst (Sound s x at) z h
placed_sound s x at (Err r) f h e = cc

-- ── the walk ─────────────────────────────────────────────────────────────────────────────────

-- the loop's invariant: what is left of the walk, from the index in the table, gives what the whole walk gives
pub record Going (s t : List ℕ) (c : Counts) (at : ℕ) : Type 0 where
  pub fuel : ℕ
  pub enough : length s < at + fuel
  pub walked : walk fuel s (go (index_in t c) at) ≡ fields s
  pub within : Within c
  pub inside : at ≤ length s

abbrev pub zeros : Counts
zeros = record { wires = 0; boxes = 0; rules = 0; inbox = 0; inputs = 0; outputs = 0; last = 0 }

pub started : (s t : List ℕ) → Going s t zeros 0
unfolding fields index_in region no_fields
started s t = record {
  fuel = suc (length s);
  enough = omega arith;
  walked = refl;
  within = record { wires = omega arith; boxes = omega arith; rules = omega arith; inbox = omega arith; inboxes = omega arith; inputs = omega arith; outputs = omega arith; owned = λ z. absurd (omega arith) };
  inside = omega arith;
}

module _ (s t : List ℕ) (c : Counts) (at : ℕ) (g : Going s t c at) where
  ended_at : (v : Verdict Index) → step s (index_in t c) at ≡ stop v → v ≡ fields s
  ended_at v e =
      sym (stopped (g.fuel - 1) s v)
      ∙ ap (walk (g.fuel - 1) s) (sym e)
      ∙ sym (turn g.fuel s (index_in t c) at (omega arith))
      ∙ g.walked

  pub ended : length s ≤ at → verdict_in t (Ok c) ≡ fields s
  unfolding verdict_in step
  ended h = ended_at (good (index_in t c)) (simp (le-leb (length s) at h))

  pub stopped_at : (q : Result Field Reason) (r : Refusal) → at < length s → Looked s (index_in t c) at q → placed at q ≡ Err r → verdict_in t (Err r) ≡ fields s
  unfolding verdict_in step Looked placed
  stopped_at (Ok f) r h k e = cc
  stopped_at (Err x) r h k e =
      let z : record { reason = x; place = at } ≡ r = cc in
      subst (λ (y : Refusal). refuse (reason_number y.reason) y.place ≡ fields s) z (ended_at (refuse (reason_number x) at) (simp (lt-leb (length s) at h) k))

  pub on : (f : Field) (t' : List ℕ) (r : Counts) → at < length s → Sound s (index_in t c) at f → Noted t c f.tag at t' r → Going s t' r (f.start + f.len)
  unfolding step on_field onward
  on f t' r h e n =
      let i = field_found s f at e.there in
      let st : step s (index_in t c) at ≡ go (index_in t' r) (f.start + f.len) = simp (lt-leb (length s) at h, e.there, e.right, n.index) in
      record {
        fuel = g.fuel - 1;
        enough = omega arith;
        walked = ap (walk (g.fuel - 1) s) (sym st) ∙ sym (turn g.fuel s (index_in t c) at (omega arith)) ∙ g.walked;
        within = n.within;
        inside = omega arith;
      }
