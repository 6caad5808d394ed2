-- What each single move does to the part that it is done on.
-- Assumes nothing.
use mathlib.Core.Path.{◌≡◌, refl, sym, ap, ◌∙◌, subst}
use mathlib.Core.Bool.{true}
use mathlib.Core.List.{List, [], ◌∷◌, ◌++◌}
use Prim.Native.Nat.{ℕ, suc, ◌+◌, ◌-◌, ◌*◌, ◌≤◌, ◌<◌}
use native.Mathlib.Omega.{arith}
use native.Mathlib.Decide.{ℕ_discrete}
use lib.Signed.{mag}
use lib.IntN.{ℤ, pos}
use lib.ListN.{length, get_or, drop, set, length-set}
use lib.Seq.{get_or-set_same, get_or-set_other}
use mir.Syntax.{w64}
use mir.Val.{to_z, of_z}
use Rattle.model.specs.declared.Ty.{Ty}
use Rattle.model.specs.declared.Token.{Token}
use Rattle.model.specs.Bytes.{two_bytes, value_bytes}
use Rattle.model.specs.Values.{within}
use Rattle.model.specs.Network.{Wire, Box, Proc, box, input, output, Net, Own, vars, taken, got, State, wire, capacity, proc, queue, own, vars_of, taken_of, got_of}
use Rattle.model.specs.States.{token_fits, tokens_fit, own_bytes}
use Rattle.model.proofs.Tests.{both}
use Rattle.model.proofs.Decoded.{GoodWire, GoodProc, GoodNet, no_variable}
use Rattle.model.proofs.Kept.{GoodVars, GoodOwn, GoodState, fit_append, fit-drop, within_small}
use Rattle.table.specs.declared.Counts.{Counts}
use Rattle.octets.proofs.Laws.{length_two, back}
use Rattle.queues.specs.Segments.{put_mid}
use Rattle.queues.specs.Queues.{WireHeld, WireRoom, GotRoom, pop_bytes, push_bytes, got_bytes}
use Rattle.queues.proofs.Queues.{pop_wire, pop_held, push_wire, push_room, length_snoc, length-values, box_put, taken_count, taken_put, push_output, got-room}
use Rattle.queues.proofs.Reading.{fits_sane}
use Rattle.lookup.specs.Ends.{wire_at, room_at}
use Rattle.lookup.proofs.Tabled.{input_is}
use Rattle.places.specs.Standing.{tokens_of, net_in, Standing, state_of}
use Rattle.places.proofs.Standing.{net_all, state_good, file_few}
use Rattle.moves.specs.Moves.{CanTake, CanPut, CanKeep, CanCount, CanReceive, variable_type, tokens_at, CountRoom, count_bytes}
use Rattle.moves.proofs.Laws.{WireStep, OwnStep, wires_n, procs_n}

-- ── a wire ───────────────────────────────────────────────────────────────────────────────────

take_step : (w : Wire) (q : List Token) → 0 < length q → length q ≤ w.capacity → tokens_fit w.ty q ≡ true → WireStep w WireHeld pop_bytes q (drop 1 q)
take_step w [] h g f = absurd (omega arith)
take_step w (t ∷ q) h g f = record { asks = pop_held w q t (omega arith); does = pop_wire w q t (omega arith); most = omega arith; fit = fit-drop w.ty 1 (t ∷ q) f }

-- one token more, of the type
fit_snoc : (t : Ty) (q : List Token) (x : Token) → tokens_fit t q ≡ true → token_fits t x ≡ true → tokens_fit t (q ++ (x ∷ [])) ≡ true
fit_snoc t q x e f = fit_append t q (x ∷ []) e (unfold tokens_fit in both (token_fits t x) true f refl)

-- a wire's room for a token that four bytes hold, and an output's
abbrev pub RoomFor : Token → List ℕ → Type 0
RoomFor t s = WireRoom s × (mag t.value < 2147483648)

abbrev pub GotRoomFor : Token → List ℕ → Type 0
GotRoomFor t s = GotRoom s × (mag t.value < 2147483648)

put_step : (w : Wire) (q : List Token) (t : Token) → GoodWire w → length q < w.capacity → tokens_fit w.ty q ≡ true → token_fits w.ty t ≡ true → WireStep w (RoomFor t) (λ s. push_bytes s t) q (q ++ (t ∷ []))
put_step w q t g h e f = record {
  asks = (push_room w q h g.most, (fits_sane w.ty g.ty t f).value);
  does = push_wire w q t h;
  most = omega (arith, length_snoc q t);
  fit = fit_snoc w.ty q t e f;
}

-- ── a box, an input, an output ───────────────────────────────────────────────────────────────

-- a place for variable j and a value that four bytes hold
abbrev pub VarRoom : ℕ → ℤ → List ℕ → Type 0
VarRoom j z s = (4 * j + 4 ≤ length s) × (mag z < 2147483648)

module _ (n : Net) where
  -- another value keeps a box's variables of their types
  good_var : (b : Box) (o : Own) (j : ℕ) (z : ℤ) → GoodVars b o → within (get_or b.vars j no_variable).ty z ≡ true → GoodVars b (vars (set (vars_of o) j z))
  unfolding vars_of
  good_var b o j z g f = record { is = refl; number = length-set (vars_of o) j z ∙ g.number; each = λ i l. by_place i l (ℕ_discrete i j) }
    where
      by_place : (i : ℕ) → i < length b.vars → Dec (i ≡ j) → within (get_or b.vars i no_variable).ty (get_or (set (vars_of o) j z) i (pos 0)) ≡ true
      by_place i l (yes e) = rw (e, get_or-set_same (vars_of o) j z (pos 0) (omega (arith, l, e, g.number))) f
      by_place i l (no d) = rw (get_or-set_other (vars_of o) j i z (pos 0) d) (g.each i l)

  keep_step : (x : Proc) (o : Own) (j : ℕ) (z : ℤ) → GoodProc n x → GoodOwn n x o → j < length (vars_of o) → within (variable_type x j) z ≡ true
      → OwnStep n x (VarRoom j z) (λ l. put_mid (4 * j) 4 l (value_bytes z)) o (vars (set (vars_of o) j z))
  unfolding own_bytes variable_type vars_of
  keep_step (box b) o j z gp g l f = record {
    asks = (omega (arith, l, length-values (vars_of o)), within_small (get_or b.vars j no_variable).ty (gp.vars j (omega (arith, l, g.number))).ty.low (gp.vars j (omega (arith, l, g.number))).ty.high z f);
    does = box_put b (vars_of o) j z l;
    good = good_var b o j z g f;
  }
  keep_step (input w ts) o j z gp g l f = absurd (omega (arith, l, ap (λ (y : Own). length (vars_of y)) g.is))
  keep_step (output w room) o j z gp g l f = absurd (omega (arith, l, ap (λ (y : Own). length (vars_of y)) g.is))

  count_step : (x : Proc) (o : Own) → GoodOwn n x o → taken_of o < length (tokens_at x) → length (tokens_at x) < 65536 → OwnStep n x CountRoom count_bytes o (taken (suc (taken_of o)))
  unfolding tokens_at own_bytes taken_of count_bytes
  count_step (box b) o g l m = absurd (omega arith)
  count_step (input w ts) o g l m =
      let k = taken_of o in
      let e = taken_count w k ts in
      record {
        asks = record { whole = omega (arith, length_two k); small = omega (arith, l, m, e) };
        does = ap (λ (i : ℕ). two_bytes (i + 1) ++ drop 2 (two_bytes k)) e ∙ taken_put w k (k + 1) ts ∙ ap two_bytes (omega arith);
        good = record { is = refl; most = omega (arith, l) };
      }
  count_step (output w room) o g l m = absurd (omega arith)

  receive_step : (x : Proc) (o : Own) (t : Token) → GoodNet n → GoodProc n x → GoodOwn n x o → length (got_of o) < room_at x → token_fits (wire n (wire_at x)).ty t ≡ true
      → OwnStep n x (GotRoomFor t) (λ l. got_bytes l t) o (got (got_of o ++ (t ∷ [])))
  unfolding room_at wire_at own_bytes got_of wire
  receive_step (box b) o t gn gp g l f = absurd (omega arith)
  receive_step (input w ts) o t gn gp g l f = absurd (omega arith)
  receive_step (output w room) o t gn gp g l f =
      let q = got_of o in
      record {
        asks = (got-room w room q l gp.2, (fits_sane (wire n w).ty (gn.wires w gp.0).ty t f).value);
        does = push_output w room q t l;
        good = record { is = refl; most = omega (arith, length_snoc q t, l); fit = fit_snoc (wire n w).ty q t g.fit f };
      }

-- ── in a state that stands ───────────────────────────────────────────────────────────────────

module _ (s t p ts b : List ℕ) (c : Counts) (h : Standing s t p ts b c) where
  abbrev n : Net
  n = net_in s t c ts

  abbrev st : State
  st = state_of s t c ts b

  abbrev fine : GoodState n st
  fine = state_good s t p ts b c h

  wire_in : (w : ℕ) → w < c.wires → w < length n.wires
  wire_in w l = omega (arith, l, wires_n s t p ts b c h)

  wire_good : (w : ℕ) → w < c.wires → GoodWire (wire n w)
  unfolding wire
  wire_good w l = (net_all s t p ts b c h).wires w (wire_in w l)

  pub take_here : (w : ℕ) → CanTake c st w → WireStep (wire n w) WireHeld pop_bytes (queue st w) (drop 1 (queue st w))
  unfolding capacity
  take_here w a = take_step (wire n w) (queue st w) a.some (fine.most w) (fine.fit w (wire_in w a.known))

  pub put_here : (w : ℕ) (k : Token) → CanPut c n st w k → WireStep (wire n w) (RoomFor k) (λ x. push_bytes x k) (queue st w) (queue st w ++ (k ∷ []))
  unfolding capacity
  put_here w k a = put_step (wire n w) (queue st w) k (wire_good w a.known) (omega (arith, a.room)) (fine.fit w (wire_in w a.known)) a.fits

  proc_in : (k : ℕ) → k < c.boxes + c.inputs + c.outputs → k < length n.procs
  proc_in k l = omega (arith, l, procs_n s t p ts b c h)

  proc_good : (k : ℕ) → k < c.boxes + c.inputs + c.outputs → GoodProc n (proc n k)
  unfolding proc
  proc_good k l = (net_all s t p ts b c h).procs k (proc_in k l)

  -- the value is handed on as the machine has it
  pub keep_here : (k j : ℕ) (z : ℤ) → CanKeep c n st k j z
      → OwnStep n (proc n k) (VarRoom j (to_z w64 (of_z w64 z))) (λ x. put_mid (4 * j) 4 x (value_bytes (to_z w64 (of_z w64 z)))) (own st k) (vars (set (vars_of (own st k)) j z))
  keep_here k j z a =
      let l : k < c.boxes + c.inputs + c.outputs = omega (arith, a.known) in
      let e = keep_step n (proc n k) (own st k) j z (proc_good k l) (fine.kept k (proc_in k l)) a.there a.fits in
      subst (λ (y : ℤ). OwnStep n (proc n k) (VarRoom j y) (λ x. put_mid (4 * j) 4 x (value_bytes y)) (own st k) (vars (set (vars_of (own st k)) j z))) (sym (back {z = z} (omega (arith, e.asks.1)))) e

  -- an input has few tokens
  tokens_short : (k : ℕ) → c.boxes ≤ k → k < c.boxes + c.inputs → length (tokens_at (proc n k)) ≤ 16384
  unfolding net_in tokens_at
  tokens_short k l m = omega (arith, ap (λ (x : Proc). length (tokens_at x)) (input_is s t c h.tabled k l m (tokens_of s t c ts)), file_few s t p ts b c h (k - c.boxes))

  pub count_here : (k : ℕ) → CanCount c n st k → OwnStep n (proc n k) CountRoom count_bytes (own st k) (taken (suc (taken_of (own st k))))
  count_here k a =
      let l : k < c.boxes + c.inputs + c.outputs = omega (arith, a.known) in
      count_step n (proc n k) (own st k) (fine.kept k (proc_in k l)) a.left (omega (arith, tokens_short k a.least a.known))

  pub receive_here : (k : ℕ) (x : Token) → CanReceive c n st k x → OwnStep n (proc n k) (GotRoomFor x) (λ y. got_bytes y x) (own st k) (got (got_of (own st k) ++ (x ∷ [])))
  receive_here k x a = receive_step n (proc n k) (own st k) x (net_all s t p ts b c h) (proc_good k a.known) (fine.kept k (proc_in k a.known)) (omega (arith, a.room)) a.fits
