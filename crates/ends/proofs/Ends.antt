-- The marks of inputs and outputs: a count below a limit, and a test of the wire.
-- Assumes nothing.
use mathlib.Core.Path.{◌≡◌, refl, sym, ap, ◌∙◌}
use mathlib.Core.Bool.{Bool, true, false, not, ◌&&◌}
use mathlib.Core.List.{List, [], ◌∷◌}
use Prim.Native.Nat.{ℕ, suc, ◌+◌, ◌-◌, ◌≤◌, ◌<◌}
use native.Mathlib.Omega.{arith}
use native.Mathlib.Decide.{dec_lt}
use lib.Dec.{eqb, ltb}
use lib.ListN.{length, get_or}
use borrow.Author.Tests.{ne_eqb, lt-ltb, le-ltb}
use Rattle.model.specs.declared.Token.{Token}
use Rattle.model.specs.Bytes.{two_at}
use Rattle.model.specs.Network.{input, output, Net, State, wire, proc, queue, own, taken_of, got_of}
use Rattle.model.specs.NetworkFile.{Index, net_of}
use Rattle.model.specs.States.{wire_bytes, own_bytes}
use Rattle.model.specs.Cycles.{empty, full, flag, mark_of, mark, marked}
use Rattle.table.specs.declared.Counts.{Counts}
use Rattle.table.specs.Table.{index_in}
use Rattle.queues.proofs.Queues.{taken_count, got_count, wire_count}
use Rattle.lookup.specs.Ends.{wire_at, room_at}
use Rattle.lookup.proofs.Tabled.{input_is, output_is}
use Rattle.places.specs.Standing.{tokens_of, net_in, Standing, state_of}
use Rattle.places.proofs.Standing.{state_good}
use Rattle.sights.specs.Seen.{full_in}
use Rattle.sights.proofs.Sights.{full_is}

-- ── a count below a limit, and a test ────────────────────────────────────────────────────────

-- the count that the bytes of an input and of an output begin with
abbrev pub count_of : Net → State → ℕ → ℕ
count_of n s k = two_at (own_bytes (proc n k) (own s k)) 0

-- process k is marked where its count is below a limit and its wire is free: not full for an input, not empty for an output
pub record EndMark (n : Net) (s : State) (k limit : ℕ) (free : Bool) : Type 0 where
  pub is : mark n s k ≡ flag (ltb (count_of n s k) limit && free)

marked-flag : (b : Bool) → marked (flag b) ≡ b
unfolding marked flag
marked-flag true = refl
marked-flag false = refl

and_swap : (a b : Bool) → (a && b) ≡ (b && a)
and_swap true true = refl
and_swap true false = refl
and_swap false true = refl
and_swap false false = refl

module _ (n : Net) (s : State) (k : ℕ) where
  input_end : (w : ℕ) (ts : List Token) → proc n k ≡ input w ts → EndMark n s k (length ts) (not (full n s w))
  unfolding mark mark_of own_bytes taken_of
  input_end w ts e = record { is = rw e (ap (λ (a : ℕ). flag (ltb a (length ts) && not (full n s w))) (sym (taken_count w (taken_of (own s k)) ts))) }

  output_end : (w room : ℕ) → proc n k ≡ output w room → EndMark n s k room (not (empty (queue s w)))
  unfolding mark mark_of own_bytes got_of
  output_end w room e = record {
    is = rw e (ap flag (and_swap (not (empty (queue s w))) (ltb (length (got_of (own s k))) room)) ∙ ap (λ (a : ℕ). flag (ltb a room && not (empty (queue s w)))) (sym (got_count w room (got_of (own s k)))));
  }

  module _ (limit a : ℕ) (free : Bool) (h : EndMark n s k limit free) (e : a ≡ count_of n s k) where
    -- nothing left to send, or no room left
    pub end_spent : limit ≤ a → false ≡ marked (mark n s k)
    end_spent l = sym (ap marked h.is ∙ marked-flag (ltb (count_of n s k) limit && free) ∙ rw (← e, le-ltb a limit l))

    -- else the wire decides
    pub end_left : (r : Bool) → a < limit → r ≡ free → r ≡ marked (mark n s k)
    end_left r l q = q ∙ sym (ap marked h.is ∙ marked-flag (ltb (count_of n s k) limit && free) ∙ rw (← e, lt-ltb a limit l))

  end_fires : (limit : ℕ) (free : Bool) → EndMark n s k limit free → mark n s k ≡ flag (marked (mark n s k))
  end_fires limit free h = h.is ∙ ap flag (sym (ap marked h.is ∙ marked-flag (ltb (count_of n s k) limit && free)))

-- ── a wire's bytes ───────────────────────────────────────────────────────────────────────────

length-zero : (q : List Token) → eqb (length q) 0 ≡ empty q
unfolding empty
length-zero [] = refl
length-zero (t ∷ q) = ne_eqb (suc (length q)) 0 (λ e. omega (arith, e))

-- ── inputs and outputs of a network that stands ──────────────────────────────────────────────

module _ (s t p ts b : List ℕ) (c : Counts) (h : Standing s t p ts b c) where
  abbrev x : Index
  x = index_in t c

  abbrev n : Net
  n = net_in s t c ts

  abbrev st : State
  st = state_of s t c ts b

  -- what the bytes of wire v show
  module _ (w v : ℕ) (part : List ℕ) (d : w ≡ v) (e : part ≡ wire_bytes (wire n w) (queue st w)) where
    pub not_full : (f : Bool) → f ≡ full_in part → not f ≡ not (full n st v)
    not_full f q = ap not (q ∙ ap full_in e ∙ full_is n st w ((state_good s t p ts b c h).most w) ∙ ap (full n st) d)

    pub not_empty : (a : ℕ) → a ≡ get_or part 0 0 → not (eqb a 0) ≡ not (empty (queue st v))
    not_empty a q =
        ap (λ (y : ℕ). not (eqb y 0)) (q ∙ ap (λ (y : List ℕ). get_or y 0 0) e ∙ wire_count (wire n w) (queue st w))
        ∙ ap not (length-zero (queue st w))
        ∙ ap (λ (u : ℕ). not (empty (queue st u))) d

  module _ (k : ℕ) where
    pub input_marks : (i : ℕ) → i ≡ k - c.boxes → c.boxes ≤ k → k < c.boxes + c.inputs → EndMark n st k (length (get_or (tokens_of s t c ts) i [])) (not (full n st (wire_at (proc (net_of s x []) k))))
    unfolding net_in
    input_marks i e from to = rw e (input_end n st k _ _ (input_is s t c h.tabled k from to (tokens_of s t c ts)))

    pub output_marks : c.boxes + c.inputs ≤ k → k < c.boxes + c.inputs + c.outputs → EndMark n st k (room_at (proc (net_of s x []) k)) (not (empty (queue st (wire_at (proc (net_of s x []) k)))))
    unfolding net_in
    output_marks from to = output_end n st k _ _ (output_is s t c h.tabled k from to (tokens_of s t c ts))

  -- an input or output is marked with rule 0 or not at all: never a fault
  pub ends_fires : (k : ℕ) → c.boxes ≤ k → k < c.boxes + c.inputs + c.outputs → mark n st k ≡ flag (marked (mark n st k))
  ends_fires k l m = go (dec_lt k (c.boxes + c.inputs))
    where
      go : Dec (k < c.boxes + c.inputs) → mark n st k ≡ flag (marked (mark n st k))
      go (yes g) = end_fires n st k _ _ (input_marks k (k - c.boxes) refl l g)
      go (no f) = end_fires n st k _ _ (output_marks k (omega (arith, f)) m)
