-- A part of the lent bytes exchanged for another queue, or for other contents of a process: what the bytes became.
-- Assumes nothing.
use mathlib.Core.Path.{◌≡◌, refl, ap, ◌∙◌}
use mathlib.Core.Logic.{◌≢◌}
use mathlib.Core.Bool.{true}
use mathlib.Core.List.{List, [], ◌++◌}
use Prim.Native.Nat.{ℕ, ◌+◌, ◌-◌, ◌≤◌, ◌<◌}
use native.Mathlib.Omega.{arith}
use native.Mathlib.Decide.{ℕ_discrete}
use lib.ListN.{length, drop, length-append, length-drop, length-set}
use lib.Seq.{get_or-set_same, get_or-set_other, drop_at}
use Rattle.model.specs.declared.Token.{Token}
use Rattle.model.specs.Network.{Wire, Proc, Net, Own, vars, State, wire, capacity, proc, queue, own}
use Rattle.model.specs.NetworkFile.{net_of}
use Rattle.model.specs.States.{tokens_fit, wire_bytes, own_bytes, bytes_of, state_size}
use Rattle.model.proofs.Kept.{GoodOwn, GoodState}
use Rattle.model.proofs.Lookup.{wires_length, procs_length}
use Rattle.table.specs.declared.Counts.{Counts}
use Rattle.table.specs.Table.{index_in}
use Rattle.octets.proofs.Laws.{Octets}
use Rattle.queues.specs.Segments.{mid, put_mid}
use Rattle.queues.specs.Sound.{Sound}
use Rattle.queues.proofs.Saved.{good_laid}
use Rattle.queues.proofs.Whole.{wire_edit, own_edit, length_bytes}
use Rattle.lookup.proofs.Tabled.{n_wires, n_boxes, n_inputs, n_outputs}
use Rattle.places.specs.declared.Span.{Span}
use Rattle.places.specs.Places.{WireSpan, OwnSpan}
use Rattle.places.specs.Standing.{tokens_of, net_in, Standing, state_of}
use Rattle.places.proofs.Standing as standing
use Rattle.moves.specs.Moves.{Became, with_queue, with_own}

-- ── one after another ────────────────────────────────────────────────────────────────────────

module _ (s t p ts : List ℕ) (c : Counts) where
  -- nothing done
  pub became_none : (b : List ℕ) → Standing s t p ts b c → Became s t p ts b c b (state_of s t c ts b)
  became_none b h = record { stands = h; state = refl; long = refl; rest = refl }

  -- then something more
  pub became_more : (b b' b'' : List ℕ) (s' s'' : State) → Became s t p ts b c b' s' → Became s t p ts b' c b'' s'' → Became s t p ts b c b'' s''
  became_more b b' b'' s' s'' f g = record { stands = g.stands; state = g.state; long = g.long ∙ f.long; rest = g.rest ∙ f.rest }

  -- then a change of what stood there
  pub became_then : (b b' b'' : List ℕ) (s' : State) (f : State → State) → Became s t p ts b c b' s' → Became s t p ts b' c b'' (f (state_of s t c ts b')) → Became s t p ts b c b'' (f s')
  became_then b b' b'' s' f x y = record { stands = y.stands; state = y.state ∙ ap f x.state; long = y.long ∙ x.long; rest = y.rest ∙ x.rest }

-- ── what stands there afterwards ─────────────────────────────────────────────────────────────

module _ (s : State) where
  pub queue-same : (w : ℕ) (q : List Token) → w < length s.queues → queue (with_queue w q s) w ≡ q
  unfolding with_queue queue
  queue-same w q l = get_or-set_same s.queues w q [] l

  pub queue_other : (w v : ℕ) (q : List Token) → v ≢ w → queue (with_queue w q s) v ≡ queue s v
  unfolding with_queue queue
  queue_other w v q d = get_or-set_other s.queues w v q [] d

  pub queue_kept : (k w : ℕ) (o : Own) → queue (with_own k o s) w ≡ queue s w
  unfolding with_own queue
  queue_kept k w o = refl

  pub own_same : (k : ℕ) (o : Own) → k < length s.owns → own (with_own k o s) k ≡ o
  unfolding with_own own
  own_same k o l = get_or-set_same s.owns k o (vars []) l

  pub own_other : (k j : ℕ) (o : Own) → j ≢ k → own (with_own k o s) j ≡ own s j
  unfolding with_own own
  own_other k j o d = get_or-set_other s.owns k j o (vars []) d

  pub own_kept : (w k : ℕ) (q : List Token) → own (with_queue w q s) k ≡ own s k
  unfolding with_queue own
  own_kept w k q = refl

-- ── a good state with another queue, or other contents, is good ──────────────────────────────

pub good_queue : (n : Net) (s : State) (w : ℕ) (q : List Token) → GoodState n s → w < length n.wires → length q ≤ capacity n w → tokens_fit (wire n w).ty q ≡ true → GoodState n (with_queue w q s)
good_queue n s w q g l m f = record {
  queues = unfold with_queue in length-set s.queues w q ∙ g.queues;
  owns = unfold with_queue in g.owns;
  most = λ v. most_at v (ℕ_discrete v w);
  fit = λ v i. fit_at v i (ℕ_discrete v w);
  kept = λ k i. rw (own_kept s w k q) (g.kept k i);
}
  where
    same : queue (with_queue w q s) w ≡ q
    same = queue-same s w q (omega (arith, l, g.queues))

    most_at : (v : ℕ) → Dec (v ≡ w) → length (queue (with_queue w q s) v) ≤ capacity n v
    most_at v (yes e) = rw (e, same) m
    most_at v (no d) = rw (queue_other s w v q d) (g.most v)

    fit_at : (v : ℕ) → v < length n.wires → Dec (v ≡ w) → tokens_fit (wire n v).ty (queue (with_queue w q s) v) ≡ true
    fit_at v i (yes e) = rw (e, same) f
    fit_at v i (no d) = rw (queue_other s w v q d) (g.fit v i)

pub good_own : (n : Net) (s : State) (k : ℕ) (o : Own) → GoodState n s → k < length n.procs → GoodOwn n (proc n k) o → GoodState n (with_own k o s)
good_own n s k o g l x = record {
  queues = unfold with_own in g.queues;
  owns = unfold with_own in length-set s.owns k o ∙ g.owns;
  most = λ w. rw (queue_kept s k w o) (g.most w);
  fit = λ w i. rw (queue_kept s k w o) (g.fit w i);
  kept = λ j i. kept_at j i (ℕ_discrete j k);
}
  where
    kept_at : (j : ℕ) → j < length n.procs → Dec (j ≡ k) → GoodOwn n (proc n j) (own (with_own k o s) j)
    kept_at j i (yes e) = rw (e, own_same s k o (omega (arith, l, g.owns))) x
    kept_at j i (no d) = rw (own_other s k j o d) (g.kept j i)

-- ── an edit of a part ────────────────────────────────────────────────────────────────────────

-- f does to the bytes of a wire what brings its queue from q to q', and asks A of them
pub record WireStep (w : Wire) (A : List ℕ → Type 0) (f : List ℕ → List ℕ) (q q' : List Token) : Type 0 where
  pub asks : A (wire_bytes w q)
  pub does : f (wire_bytes w q) ≡ wire_bytes w q'
  pub most : length q' ≤ w.capacity
  pub fit : tokens_fit w.ty q' ≡ true

-- the same of a process and what it keeps
pub record OwnStep (n : Net) (x : Proc) (A : List ℕ → Type 0) (f : List ℕ → List ℕ) (o o' : Own) : Type 0 where
  pub asks : A (own_bytes x o)
  pub does : f (own_bytes x o) ≡ own_bytes x o'
  pub good : GoodOwn n x o'

-- ── the general laws ─────────────────────────────────────────────────────────────────────────

module _ (s t p ts b : List ℕ) (c : Counts) (h : Standing s t p ts b c) where
  abbrev n : Net
  n = net_in s t c ts

  abbrev st : State
  st = state_of s t c ts b

  -- bytes laid out anew, and the rest as it was
  became : (b' : List ℕ) (s' : State) → GoodState n s' → Octets b' → b' ≡ bytes_of n s' ++ drop (state_size n) b → Became s t p ts b c b' s'
  became b' s' g o e =
      let k = length_bytes n s' (good_laid n (standing.net_all s t p ts b c h) s' g) in
      record {
        stands = standing.stands s t p ts b c h b' s' g o e;
        state = standing.stands_state s t p ts b c h b' s' g e;
        long = ap length e ∙ length-append (bytes_of n s') (drop (state_size n) b) ∙ omega (arith, k, length-drop (state_size n) b, h.long);
        rest = ap (drop (state_size n)) e ∙ drop_at (bytes_of n s') (drop (state_size n) b) (state_size n) k;
      }

  -- ── a span ──

  abbrev m : Net
  m = net_of s (index_in t c) []

  -- it ends within the lent bytes
  pub inside : (e : ℕ) → e ≤ state_size m → e ≤ length b
  inside e l = omega (arith, l, standing.size_same s t p ts b c h, h.long)

  pub wires_n : length n.wires ≡ c.wires
  unfolding net_in
  wires_n = wires_length s (index_in t c) (tokens_of s t c ts) ∙ n_wires s t c h.tabled

  pub procs_n : length n.procs ≡ c.boxes + c.inputs + c.outputs
  unfolding net_in
  procs_n = procs_length s (index_in t c) (tokens_of s t c ts) ∙ omega (arith, n_boxes s t c h.tabled, n_inputs s t c h.tabled, n_outputs s t c h.tabled)

  pub procs_m : length m.procs ≡ c.boxes + c.inputs + c.outputs
  procs_m = procs_length s (index_in t c) [] ∙ omega (arith, n_boxes s t c h.tabled, n_inputs s t c h.tabled, n_outputs s t c h.tabled)

  abbrev laid : Sound n st
  laid = standing.state_laid s t p ts b c h

  abbrev whole : b ≡ bytes_of n st ++ drop (state_size n) b
  whole = standing.whole s t p ts b c h

  -- a step of wire w, done at its span
  module _ (w : ℕ) (r : Span) (A : List ℕ → Type 0) (f : List ℕ → List ℕ) (q' : List Token) (l : w < c.wires) (v : WireSpan m w r) (x : WireStep (wire n w) A f (queue st w) q') where
    abbrev wire_there : mid r.start (r.end - r.start) b ≡ wire_bytes (wire n w) (queue st w)
    wire_there = standing.wire_bytes_lem s t p ts b c h w r (omega (arith, wires_length s (index_in t c) [], n_wires s t c h.tabled)) v

    pub wire_asks : A (mid r.start (r.end - r.start) b)
    wire_asks = rw wire_there x.asks

    pub wire_done : (last : List ℕ) → last ≡ f (mid r.start (r.end - r.start) b)
        → Octets (put_mid r.start (r.end - r.start) b last) → Became s t p ts b c (put_mid r.start (r.end - r.start) b last) (with_queue w q' st)
    unfolding with_queue capacity
    wire_done last e o =
        let i : w < length n.wires = omega (arith, wires_n) in
        let v' = standing.wire_span_same s t p ts b c h w r v in
        became (put_mid r.start (r.end - r.start) b last) (with_queue w q' st) (good_queue n st w q' (standing.state_good s t p ts b c h) i x.most x.fit) o
        (wire_edit n st laid b (drop (state_size n) b) whole f last q' w r.start r.end i v'.start v'.end e x.does)

  -- a step of process k, done at its span
  module _ (k : ℕ) (r : Span) (A : List ℕ → Type 0) (f : List ℕ → List ℕ) (o' : Own) (l : k < c.boxes + c.inputs + c.outputs) (v : OwnSpan m k r) (x : OwnStep n (proc n k) A f (own st k) o') where
    abbrev own_there : mid r.start (r.end - r.start) b ≡ own_bytes (proc n k) (own st k)
    own_there = standing.own_bytes_lem s t p ts b c h k r (omega (arith, procs_m)) v

    pub own_asks : A (mid r.start (r.end - r.start) b)
    own_asks = rw own_there x.asks

    pub own_done : (last : List ℕ) → last ≡ f (mid r.start (r.end - r.start) b)
        → Octets (put_mid r.start (r.end - r.start) b last) → Became s t p ts b c (put_mid r.start (r.end - r.start) b last) (with_own k o' st)
    unfolding with_own
    own_done last e o =
        let i : k < length n.procs = omega (arith, procs_n) in
        let v' = standing.own_span_same s t p ts b c h k r (omega (arith, procs_m)) v in
        became (put_mid r.start (r.end - r.start) b last) (with_own k o' st) (good_own n st k o' (standing.state_good s t p ts b c h) i x.good) o
        (own_edit n st laid b (drop (state_size n) b) whole f last o' k r.start r.end i v'.start v'.end e x.does)
