-- What each of these firings asks, from the readiness that a cycle keeps; and the model's firing by them.
-- Assumes nothing.
use mathlib.Core.Path.{◌≡◌, refl}
use mathlib.Core.Bool.{false, not, ◌&&◌}
use mathlib.Core.List.{List, []}
use Prim.Native.Nat.{ℕ, ◌+◌, ◌≤◌, ◌<◌}
use native.Mathlib.Omega.{arith}
use lib.Dec.{eqb, ltb}
use lib.ListN.{length, get_or}
use borrow.Author.Tests.{ltb-true}
use Rattle.model.specs.declared.Token.{Token}
use Rattle.model.specs.Rules.{Pattern}
use Rattle.model.specs.Network.{Box, Proc, box, input, output, Net, Own, State, no_token, proc, queue, own, taken_of, got_of, ins_of, outs_of}
use Rattle.model.specs.NetworkFile.{box_at}
use Rattle.model.specs.Cycles.{Mark, fires, empty, oldest, full, seen, look, moves, reads_of, sent_of, kept_of, deed_of, deed, fire, mark_of, mark}
use Rattle.model.specs.Orders.{on_wire}
use Rattle.model.proofs.Tests.{and_left, and_right}
use Rattle.model.proofs.Lookup.{box_proc}
use Rattle.model.proofs.Sound.{flag_fires}
use Rattle.model.proofs.Order.{Ready, length_joined, hit_same}
use Rattle.table.specs.declared.Counts.{Counts}
use Rattle.table.specs.Table.{index_in}
use Rattle.rules.specs.Bodies.{patterns_from}
use Rattle.typing.specs.Fits.{list_read}
use Rattle.lookup.proofs.Tabled.{n_boxes, input_known, output_known}
use Rattle.places.specs.Standing.{tokens_of, net_in, Standing, state_of}
use Rattle.lookup.specs.Ends.{wire_at, room_at}
use Rattle.moves.specs.Moves.{tokens_at}
use Rattle.taking.specs.Taking.{fired, InputReady, OutputReady}
use Rattle.taking.proofs.Firing.{OutputAt, InputAt, output_at_lem, input_at_lem}

-- ── one wire, one token ──────────────────────────────────────────────────────────────────────

module _ (n : Net) (m : ℕ → Mark) (k : ℕ) (s : State) (w : ℕ) where
  took_one : (room : ℕ) → proc n k ≡ output w room → length (on_wire w (deed n m k s).took) ≡ 1
  unfolding deed deed_of ins_of reads_of look seen moves on_wire
  took_one room e = rw e (omega (arith, length_joined (eqb w w) (oldest (queue s w)) [], hit_same w w refl))

  put_one : (q : List Token) → proc n k ≡ input w q → length (on_wire w (deed n m k s).put) ≡ 1
  unfolding deed deed_of outs_of sent_of moves on_wire
  put_one q e = rw e (omega (arith, length_joined (eqb w w) (get_or q (taken_of (own s k)) no_token) [], hit_same w w refl))

  -- the rule's number is nothing to an input or an output
  output_fire : (room : ℕ) → proc n k ≡ output w room → fire n m k s ≡ fired n k 0 s
  unfolding fire deed fired reads_of deed_of sent_of kept_of
  output_fire room e = rw e refl

  input_fire : (q : List Token) → proc n k ≡ input w q → fire n m k s ≡ fired n k 0 s
  unfolding fire deed fired reads_of deed_of sent_of kept_of
  input_fire q e = rw e refl

-- ── what a mark says beside the wires ────────────────────────────────────────────────────────

mark-room : (n : Net) (s : State) (w room r : ℕ) (o : Own) → mark_of n s (output w room) o ≡ fires r → length (got_of o) < room
unfolding mark_of
mark-room n s w room r o e =
    let a = not (empty (queue s w)) in
    let b = ltb (length (got_of o)) room in
    ltb-true (length (got_of o)) room (and_right a b (flag_fires (a && b) r e))

mark_left : (n : Net) (s : State) (w r : ℕ) (q : List Token) (o : Own) → mark_of n s (input w q) o ≡ fires r → taken_of o < length q
unfolding mark_of
mark_left n s w r q o e =
    let a = ltb (taken_of o) (length q) in
    let b = not (full n s w) in
    ltb-true (taken_of o) (length q) (and_left a b (flag_fires (a && b) r e))

-- ── process k, ready in the state that stands, marked in the state s₀ of the cycle's start ───

module _ (s t p ts b : List ℕ) (c : Counts) (h : Standing s t p ts b c) (m : ℕ → Mark) (k : ℕ) (q : Ready (net_in s t c ts) m k (state_of s t c ts b)) where
  abbrev n : Net
  n = net_in s t c ts

  abbrev st : State
  st = state_of s t c ts b

  module _ (s₀ : State) (r : ℕ) (same : own st k ≡ own s₀ k) (marked : mark n s₀ k ≡ fires r) where
    marked_as_lem : (x : Proc) → proc n k ≡ x → mark_of n s₀ x (own st k) ≡ fires r
    unfolding mark
    marked_as_lem x e = rw (← e, same) marked

    as_output : (w : ℕ) → OutputAt c n k w → c.boxes + c.inputs ≤ k → k < c.boxes + c.inputs + c.outputs → OutputReady c n st k × (fire n m k st ≡ fired n k 0 st)
    unfolding wire_at room_at
    as_output w o from to = (
      record {
        least = from;
        known = to;
        waits = rw o.is (omega (arith, q.has w, took_one n m k st w o.room o.is));
        room = rw o.is (mark-room n s₀ w o.room r (own st k) (marked_as_lem (output w o.room) o.is));
      },
      output_fire n m k st w o.room o.is,
    )

    pub output_due : c.boxes + c.inputs ≤ k → k < c.boxes + c.inputs + c.outputs → OutputReady c n st k × (fire n m k st ≡ fired n k 0 st)
    output_due from to = as_output _ (output_at_lem s t p ts b c h k _ from to (refl, output_known s t c h.tabled k from to)) from to

    as_input : (i w : ℕ) (x : List Token) → InputAt c n k i w x → c.boxes ≤ k → k < c.boxes + c.inputs → InputReady c n st k × (fire n m k st ≡ fired n k 0 st)
    unfolding wire_at tokens_at
    as_input i w x o from to = (
      record {
        least = from;
        known = to;
        left = rw o.is (mark_left n s₀ w r x (own st k) (marked_as_lem (input w x) o.is));
        room = rw o.is (omega (arith, q.room w, put_one n m k st w x o.is));
      },
      input_fire n m k st w x o.is,
    )

    pub input_due : c.boxes ≤ k → k < c.boxes + c.inputs → InputReady c n st k × (fire n m k st ≡ fired n k 0 st)
    input_due from to = as_input _ _ _ (input_at_lem s t p ts b c h k k _ from to (refl, input_known s t c h.tabled k from to) refl) from to

  -- a box, with the body of the rule that it fires
  module _ (body : List ℕ) (l : k < c.boxes) where
    abbrev its : Box
    its = box_at s (index_in t c) k

    abbrev ws : List ℕ
    ws = its.ins

    is_box : proc n k ≡ box its
    unfolding net_in
    is_box = box_proc s (index_in t c) (tokens_of s t c ts) k (omega (arith, l, n_boxes s t c h.tabled))

    abbrev ps : List Pattern
    ps = list_read (patterns_from false (length ws) 0 body)
