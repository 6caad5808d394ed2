-- The firing of an input and of an output, move by move.
-- Assumes nothing.
use mathlib.Core.Path.{◌≡◌, refl, sym, ap, ap₂, ◌∙◌, subst}
use mathlib.Core.List.{List, []}
use Prim.Native.Nat.{ℕ, ◌+◌, ◌-◌, ◌≤◌, ◌<◌}
use native.Mathlib.Omega.{arith}
use lib.ListN.{length, get_or, drop}
use Rattle.model.specs.declared.Token.{Token}
use Rattle.model.specs.Bytes.{two_at}
use Rattle.model.specs.Network.{Proc, input, output, Net, State, no_token, wire, capacity, proc, queue, own, taken_of, ins_of, outs_of}
use Rattle.model.specs.NetworkFile.{body_at, net_of}
use Rattle.model.specs.States.{token_at, tokens_in, wire_bytes, own_bytes}
use Rattle.model.specs.Cycles.{oldest, seen, look, moves, reads_of, sent_of, present, kept_of, deed_of, take_all, put_all, act}
use Rattle.model.proofs.Accepted.{InFile}
use Rattle.model.proofs.Decoded.{GoodProc}
use Rattle.model.proofs.Kept.{fit_at, oldest_fits}
use Rattle.table.specs.declared.Counts.{Counts}
use Rattle.table.specs.Table.{index_in}
use Rattle.queues.proofs.Queues.{taken_count}
use Rattle.lookup.specs.Ends.{wire_at, room_at}
use Rattle.lookup.proofs.Tabled.{input_is, output_is}
use Rattle.places.specs.Standing.{tokens_of, net_in, Standing, state_of}
use Rattle.places.proofs.Standing.{net_all, state_good, state_laid}
use Rattle.sights.proofs.Sights.{oldest_is, queue-sane}
use Rattle.moves.specs.Moves.{Became, CanTake, CanPut, CanCount, CanReceive, with_queue, with_own, after_take, after_put, after_count, after_receive, tokens_at}
use Rattle.moves.proofs.Laws.{became_more, wires_n, procs_n}
use Rattle.token_file.specs.Fields.{Fields}
use Rattle.taking.specs.Taking.{fired, InputReady, OutputReady}

-- ── a firing by its moves ────────────────────────────────────────────────────────────────────

module _ (n : Net) (s : State) (k w : ℕ) where
  fired_output : (room : ℕ) → proc n k ≡ output w room → fired n k 0 s ≡ after_receive k (oldest (queue s w)) (after_take w s)
  unfolding fired ins_of outs_of reads_of look seen deed_of moves sent_of kept_of present take_all put_all act after_take after_receive with_queue with_own queue own
  fired_output room e = rw e refl

  fired_input : (q : List Token) → proc n k ≡ input w q → fired n k 0 s ≡ after_count k (after_put w (get_or q (taken_of (own s k)) no_token) s)
  unfolding fired ins_of outs_of reads_of look deed_of moves sent_of kept_of take_all put_all act after_put after_count with_queue with_own queue own
  fired_input q e = rw e refl

-- process k is an output of wire w
pub record OutputAt (c : Counts) (n : Net) (k w : ℕ) : Type 0 where
  pub room : ℕ
  pub is : proc n k ≡ output w room
  pub known : w < c.wires

-- process k is input i, of wire w and with these tokens
pub record InputAt (c : Counts) (n : Net) (k i w : ℕ) (q : List Token) : Type 0 where
  pub is : proc n k ≡ input w q
  pub number : i < c.inputs
  pub known : w < c.wires

module _ (s t p ts b : List ℕ) (c : Counts) (h : Standing s t p ts b c) where
  abbrev n : Net
  n = net_in s t c ts

  abbrev st : State
  st = state_of s t c ts b

  proc_good : (k : ℕ) → k < c.boxes + c.inputs + c.outputs → GoodProc n (proc n k)
  unfolding proc
  proc_good k l = (net_all s t p ts b c h).procs k (omega (arith, l, procs_n s t p ts b c h))

  -- ── an output ──

  pub output_at_lem : (k w : ℕ) → c.boxes + c.inputs ≤ k → k < c.boxes + c.inputs + c.outputs → (w ≡ wire_at (proc (net_of s (index_in t c) []) k)) × (w < c.wires) → OutputAt c n k w
  unfolding net_in
  output_at_lem k w from to f =
      let room : ℕ = room_at (proc (net_of s (index_in t c) []) k) in
      record { room = room; is = output_is s t c h.tabled k from to (tokens_of s t c ts) ∙ ap (λ (v : ℕ). output v room) (sym f.0); known = f.1 }

  -- the oldest token of a wire, from its bytes
  pub oldest_here : (w : ℕ) (part : List ℕ) (x : Token) → part ≡ wire_bytes (wire n w) (queue st w) → x ≡ token_at (drop 1 part) → x ≡ oldest (queue st w)
  oldest_here w part x e f = f ∙ ap (λ (y : List ℕ). token_at (drop 1 y)) e ∙ oldest_is (wire n w) (queue st w) (queue-sane n st (state_laid s t p ts b c h) w)

  module _ (k w : ℕ) (r : OutputReady c n st k) (o : OutputAt c n k w) where
    on_wire_lem : wire_at (proc n k) ≡ w
    unfolding wire_at
    on_wire_lem = ap wire_at o.is

    pub output_takes : CanTake c st w
    output_takes = record { known = o.known; some = subst (λ (v : ℕ). 0 < length (queue st v)) on_wire_lem r.waits }

    module _ (x : Token) (e : x ≡ oldest (queue st w)) (b' : List ℕ) (f : Became s t p ts b c b' (after_take w st)) where
      pub output_receives : CanReceive c n (state_of s t c ts b') k x
      unfolding after_take with_queue own
      output_receives = rw f.state (record {
        least = r.least;
        known = r.known;
        room = r.room;
        fits = rw (on_wire_lem, e) (oldest_fits (wire n w).ty (queue st w) ((state_good s t p ts b c h).fit w (omega (arith, o.known, wires_n s t p ts b c h))) output_takes.some);
      })

      pub output_done : (b'' : List ℕ) → Became s t p ts b' c b'' (after_receive k x (state_of s t c ts b')) → Became s t p ts b c b'' (fired n k 0 st)
      output_done b'' g =
          rw (fired_output n st k w o.room o.is)
          (became_more s t p ts c b b' b'' (after_take w st) (after_receive k (oldest (queue st w)) (after_take w st)) f (rw (f.state, e) at g))

  -- ── an input ──

  -- its number among the inputs is that of its field's tokens
  pub input_at_lem : (k a w : ℕ) → c.boxes ≤ k → k < c.boxes + c.inputs → (w ≡ wire_at (proc (net_of s (index_in t c) []) k)) × (w < c.wires) → a ≡ k → InputAt c n k (a - c.boxes) w (get_or (tokens_of s t c ts) (a - c.boxes) [])
  unfolding net_in
  input_at_lem k a w from to f e = record {
    is = input_is s t c h.tabled k from to (tokens_of s t c ts) ∙ ap₂ (λ (v i : ℕ). input v (get_or (tokens_of s t c ts) (i - c.boxes) [])) (sym f.0) (sym e);
    number = omega (arith, e, from, to);
    known = f.1;
  }

  module _ (k i w : ℕ) (r : InputReady c n st k) (o : InputAt c n k i w (get_or (tokens_of s t c ts) i [])) where
    abbrev q : List Token
    q = get_or (tokens_of s t c ts) i []

    at_wire : wire_at (proc n k) ≡ w
    unfolding wire_at
    at_wire = ap wire_at o.is

    its_tokens : tokens_at (proc n k) ≡ q
    unfolding tokens_at
    its_tokens = ap tokens_at o.is

    pub taken_here : (part : List ℕ) (a : ℕ) → part ≡ own_bytes (proc n k) (own st k) → a ≡ two_at part 0 → a ≡ taken_of (own st k)
    unfolding own_bytes taken_of
    taken_here part a e f = f ∙ ap (λ (y : List ℕ). two_at y 0) (e ∙ ap (λ (x : Proc). own_bytes x (own st k)) o.is) ∙ taken_count w (taken_of (own st k)) q

    module _ (fs : List ℕ) (g : Fields s t ts fs c) (a : ℕ) (d : a ≡ taken_of (own st k)) where
      token_left : a < length q
      token_left = omega (arith, d, r.left, ap (λ (l : List Token). length l) its_tokens)

      -- its next token stands in its field
      pub token_asked : InFile ts (get_or fs i 0) × (a < length (tokens_in (body_at ts (get_or fs i 0))))
      token_asked = let f = g.each i o.number in (f.inside, omega (arith, token_left, ap (λ (l : List Token). length l) f.holds))

      module _ (x : Token) (e : x ≡ get_or (tokens_in (body_at ts (get_or fs i 0))) a no_token) where
        token_is : x ≡ get_or q a no_token
        token_is = e ∙ ap (λ (l : List Token). get_or l a no_token) (g.each i o.number).holds

        pub input_puts : CanPut c n st w x
        input_puts = record {
          known = o.known;
          room = subst (λ (v : ℕ). length (queue st v) < capacity n v) at_wire r.room;
          fits = let y : GoodProc n (input w q) = subst (GoodProc n) o.is (proc_good k (omega (arith, r.known))) in rw token_is (fit_at (wire n w).ty q y.1 a token_left);
        }

        module _ (b' : List ℕ) (f : Became s t p ts b c b' (after_put w x st)) where
          pub input_counts : CanCount c n (state_of s t c ts b') k
          unfolding after_put with_queue own
          input_counts = rw f.state (record { least = r.least; known = r.known; left = r.left })

          pub input_done : (b'' : List ℕ) → Became s t p ts b' c b'' (after_count k (state_of s t c ts b')) → Became s t p ts b c b'' (fired n k 0 st)
          input_done b'' y =
              rw (fired_input n st k w q o.is, ← d, ← token_is)
              (became_more s t p ts c b b' b'' (after_put w x st) (after_count k (after_put w x st)) f (rw f.state at y))
