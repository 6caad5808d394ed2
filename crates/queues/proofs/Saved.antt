-- Saved states: a good state is one that its bytes hold, and bytes that are accepted hold a good one.
-- Assumes nothing.
use Prim.Native.Nat.{ℕ, zero, suc, ◌*◌, ◌≤◌, ◌<◌}
use mathlib.Core.Path.{◌≡◌, refl, sym, subst}
use mathlib.Core.Bool.{true}
use mathlib.Core.List.{List, [], ◌∷◌, ◌++◌, map, zip_with}
use native.Mathlib.Omega.{arith}
use native.Mathlib.Decide.{dec_lt}
use lib.Dec.{leb}
use lib.IntN.{pos}
use lib.ListN.{length, get_or, drop, get_or-eq_default}
use borrow.Author.Tests.{leb-true}
use Rattle.model.specs.declared.Ty.{Ty}
use Rattle.model.specs.declared.Token.{Token}
use Rattle.model.specs.Bytes.{two_at, value_at}
use Rattle.model.specs.Values.{within}
use Rattle.model.specs.Network.{Wire, Variable, Proc, box, input, output, Net, Own, vars, State, no_token, no_wire, nobody, wire, capacity, proc, queue, own, vars_of, taken_of, got_of}
use Rattle.model.specs.States.{bytes_of, tokens_fit, read_tokens, wire_bytes, own_bytes, wire_size, own_size, wires_size, all_zero, room_fits, wire_fits, own_fits, values_fit, values_in, queue_in, own_in, split, all_true, wire_parts, own_parts, state_fits, state_in}
use Rattle.model.proofs.Tests.{and_left, and_right, and₂, and₃}
use Rattle.model.proofs.Decoded.{Each, GoodType, GoodProc, GoodNet, no_variable}
use Rattle.model.proofs.Kept.{GoodOwn, GoodState, fit_at}
use Rattle.model.proofs.Kept.{within_small, good_whole}
use Rattle.octets.proofs.Laws.{Octets}
use Rattle.queues.specs.Sound.{Both, neither, pair, Sane, Held, Kept, of_box, of_input, of_output, Sound}
use Rattle.queues.proofs.Reading.{fits_sane, length_read, length_in, octets-drop}
use Rattle.queues.proofs.Whole.{both_at, both_length, zip_sound}

-- ── lists, by their elements ─────────────────────────────────────────────────────────────────

both_make : {A B : Type 0} (R : A → B → Type 0) (d : A) (e : B) (xs : List A) (ys : List B) → length xs ≡ length ys → ((i : ℕ) → i < length xs → R (get_or xs i d) (get_or ys i e)) → Both R xs ys
both_make R d e [] [] l h = neither
both_make R d e [] (y ∷ ys) l h = absurd (omega arith)
both_make R d e (x ∷ xs) [] l h = absurd (omega arith)
both_make R d e (x ∷ xs) (y ∷ ys) l h = pair (h 0 (omega arith)) (both_make R d e xs ys (omega arith) (λ i g. h (suc i) (omega (arith, g))))

-- ── a good state is one that bytes hold ──────────────────────────────────────────────────────

module _ (n : Net) (gn : GoodNet n) (s : State) (gs : GoodState n s) where
  wire_type : (w : ℕ) → w < length n.wires → GoodType (wire n w).ty
  unfolding wire
  wire_type w h = (gn.wires w h).ty

  tokens_sane : (t : Ty) → GoodType t → (q : List Token) → tokens_fit t q ≡ true → Each Sane no_token q
  tokens_sane t g q e k h = fits_sane t g (get_or q k no_token) (fit_at t q e k h)

  own-laid : (p : Proc) (o : Own) → GoodProc n p → GoodOwn n p o → Kept p o
  own-laid (box b) o gp g =
      subst (Kept (box b)) (sym g.is)
      (of_box g.number (λ j h.
      let l : j < length b.vars = omega (arith, h, g.number) in
      let t = (gp.vars j l).ty in
      record { value = within_small (get_or b.vars j no_variable).ty t.low t.high (get_or (vars_of o) j (pos 0)) (g.each j l) }))
  own-laid (input w ts) o gp g = subst (Kept (input w ts)) (sym g.is) of_input
  own-laid (output w room) o gp g = subst (Kept (output w room)) (sym g.is) (of_output g.most (tokens_sane (wire n w).ty (wire_type w gp.0) (got_of o) g.fit))

  pub good_laid : Sound n s
  unfolding wire capacity queue proc own
  good_laid = record {
    wires = both_make Held no_wire [] n.wires s.queues (sym gs.queues) (λ w h. record { fits = gs.most w; sane = tokens_sane (wire n w).ty (wire_type w h) (queue s w) (gs.fit w h) });
    procs = both_make Kept nobody (vars []) n.procs s.owns (sym gs.owns) (λ k h. own-laid (proc n k) (own s k) (gn.procs k h) (gs.kept k h));
  }

  -- its bytes give it back, and are accepted
  pub good_back : (rest : List ℕ) → state_in n (bytes_of n s ++ rest) ≡ s
  good_back rest = (good_whole n gn s gs rest).state

  pub good_fits : (rest : List ℕ) → state_fits n true (bytes_of n s ++ rest) ≡ true
  good_fits rest = (good_whole n gn s gs rest).accepted

-- ── an accepted state is good ────────────────────────────────────────────────────────────────

-- a room that fits
room-fit : (t : Ty) (room k : ℕ) (s : List ℕ) → room_fits t room k s ≡ true → (length (read_tokens k s) ≤ room) × (tokens_fit t (read_tokens k s) ≡ true)
unfolding room_fits
room-fit t room k s e =
    let a = and₃ (leb k room) (tokens_fit t (read_tokens k s)) (all_zero (drop (5 * k) s)) e in
    (omega (arith, length_read k s, leb-true k room a.0), a.1)

record GoodQueue (w : Wire) (q : List Token) : Type 0 where
  most : length q ≤ w.capacity
  fit : tokens_fit w.ty q ≡ true

queue-fit : (w : Wire) (s : List ℕ) → Octets s → wire_fits w s ≡ true → GoodQueue w (queue_in w s)
unfolding wire_fits queue_in
queue-fit w s b e = let a = room-fit w.ty w.capacity (get_or s 0 0) (drop 1 s) e in record { most = a.0; fit = a.1 }

values-fit : (vs : List Variable) (s : List ℕ) → values_fit vs s ≡ true → (j : ℕ) → j < length vs → within (get_or vs j no_variable).ty (get_or (values_in vs s) j (pos 0)) ≡ true
unfolding values_fit values_in
values-fit [] s e j h = absurd (omega arith)
values-fit (v ∷ vs) s e zero h = and_left (within v.ty (value_at s 0)) (values_fit vs (drop 4 s)) e
values-fit (v ∷ vs) s e (suc j) h = values-fit vs (drop 4 s) (and_right (within v.ty (value_at s 0)) (values_fit vs (drop 4 s)) e) j (omega arith)

own-fit : (n : Net) (p : Proc) (s : List ℕ) → Octets s → own_fits n true p s ≡ true → GoodOwn n p (own_in p s)
unfolding own_fits own_in vars_of taken_of got_of
own-fit n (box v) s b e = record { is = refl; number = length_in v.vars s; each = values-fit v.vars s e }
own-fit n (input w ts) s b e = record { is = refl; most = leb-true (two_at s 0) (length ts) e }
own-fit n (output w room) s b e = let a = room-fit (wire n w).ty room (two_at s 0) (drop 2 s) e in record { is = refl; most = a.0; fit = a.1 }

pub fits_good : (n : Net) (s : List ℕ) → Octets s → state_fits n true s ≡ true → GoodState n (state_in n s)
unfolding state_fits state_in wire_parts own_parts queue wire capacity proc own
fits_good n s b e =
    let a = and₂ (all_true (zip_with wire_fits n.wires (split (map wire_size n.wires) s))) (all_true (zip_with (own_fits n true) n.procs (split (map own_size n.procs) (drop (wires_size n) s)))) e in
    let q = zip_sound wire_bytes queue_in wire_size wire_fits GoodQueue queue-fit n.wires s b a.0 in
    let o = zip_sound own_bytes own_in own_size (own_fits n true) (GoodOwn n) (own-fit n) n.procs (drop (wires_size n) s) (octets-drop (wires_size n) s b) a.1 in
    record {
      queues = sym (both_length q);
      owns = sym (both_length o);
      most = λ w. most_at w q (dec_lt w (length n.wires));
      fit = λ w h. (both_at q w no_wire [] h).fit;
      kept = λ k h. both_at o k nobody (vars []) h;
    }
  where
    most_at : {qs : List (List Token)} (w : ℕ) → Both GoodQueue n.wires qs → Dec (w < length n.wires) → length (get_or qs w []) ≤ capacity n w
    most_at w q (yes h) = (both_at q w no_wire [] h).most
    most_at {qs} w q (no f) = rw (get_or-eq_default qs [] {n = w} (omega (arith, f, both_length q))) (omega arith)
