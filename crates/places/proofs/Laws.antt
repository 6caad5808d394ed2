-- The size of each segment, read off the table.
-- Assumes nothing.
use mathlib.Core.Path.{◌≡◌, sym, ap, ◌∙◌}
use mathlib.Core.List.{List, [], ◌∷◌, ◌++◌, map}
use Prim.Native.Nat.{ℕ, zero, suc, ◌+◌, ◌*◌, ◌≤◌, ◌<◌}
use native.Mathlib.Omega.{arith}
use native.Mathlib.Numerals.{add-one}
use lib.ListN.{length, get_or, take, set, length-append, length-map, get_or-append}
use lib.Seq.{get_or-append-add, take-suc, take_all, take-nil, get_or-set_same, get_or-set_other}
use native.Mathlib.Decide.{ℕ_discrete}
use Rattle.model.specs.Network.{Net, wire, proc, no_wire, nobody}
use Rattle.model.specs.NetworkFile.{Index, body_at, box_of, box_at, net_of}
use Rattle.model.specs.States.{wire_size, own_size, sum, wires_size, state_size}
use Rattle.model.proofs.Decoded.{get_d_map_lt, length-tabulate}
use Rattle.model.proofs.Lookup.{box_proc, wires_length, procs_length}
use Rattle.model.proofs.Sizes.{state_most, sum_append}
use Rattle.table.specs.declared.Counts.{Counts}
use Rattle.table.specs.Table.{index_in}
use Rattle.queues.specs.Segments.{start_of, wire_start, own_start}
use Rattle.queues.proofs.Segments.{start_first, start_second}
use Rattle.lookup.specs.Tabled.{Tabled}
use Rattle.lookup.specs.Ends.{room_at}
use Rattle.lookup.proofs.Tabled.{valid, n_wires, n_boxes, n_inputs, n_outputs, bare_good, input_is, output_is}
use Rattle.places.specs.Places.{sizes_of, Placed, Between, WireSpan, OwnSpan}
use Rattle.places.specs.declared.Span.{Span}

-- ── starts ───────────────────────────────────────────────────────────────────────────────────

sum_one : (k : ℕ) → sum (k ∷ []) ≡ k
unfolding sum
sum_one k = omega arith

pub start_next : (sizes : List ℕ) (j : ℕ) → j < length sizes → start_of sizes (j + 1) ≡ start_of sizes j + get_or sizes j 0
unfolding start_of
start_next sizes j h = rw (add-one j, take-suc sizes j 0 h) (sum_append (take j sizes) (get_or sizes j 0 ∷ []) ∙ ap (λ (k : ℕ). sum (take j sizes) + k) (sum_one (get_or sizes j 0)))

pub start_all : (sizes : List ℕ) (j : ℕ) → length sizes ≤ j → start_of sizes j ≡ sum sizes
unfolding start_of
start_all sizes j h = ap sum (take_all j sizes h)

take_sum : (k : ℕ) (l : List ℕ) → sum (take k l) ≤ sum l
unfolding sum
take_sum k [] = by_zero k
  where
    by_zero : (k : ℕ) → sum (take k []) ≤ 0
    by_zero k = rw (take-nil k) (omega arith)
take_sum k (a ∷ l) = by_count k (λ j. take_sum j l)
  where
    by_count : (k : ℕ) → ((j : ℕ) → sum (take j l) ≤ sum l) → sum (take k (a ∷ l)) ≤ a + sum l
    by_count zero ih = omega arith
    by_count (suc j) ih = omega (arith, ih j)

pub start_most : (sizes : List ℕ) (j : ℕ) → start_of sizes j ≤ sum sizes
unfolding start_of
start_most sizes j = take_sum j sizes

-- ── sizes ────────────────────────────────────────────────────────────────────────────────────

module _ (s t : List ℕ) (c : Counts) (h : Tabled s t c) where
  abbrev x : Index
  x = index_in t c

  abbrev n : Net
  n = net_of s x []

  procs_n : length n.procs ≡ c.boxes + c.inputs + c.outputs
  procs_n = procs_length s x [] ∙ omega (arith, n_boxes s t c h, n_inputs s t c h, n_outputs s t c h)

  wires_n : length n.wires ≡ c.wires
  wires_n = wires_length s x [] ∙ n_wires s t c h

  pub sizes_length : length (sizes_of n) ≡ c.wires + (c.boxes + c.inputs + c.outputs)
  unfolding sizes_of
  sizes_length = length-append (map wire_size n.wires) (map own_size n.procs) ∙ omega (arith, length-map n.wires wire_size, length-map n.procs own_size, procs_n, wires_n)

  pub sizes_sum : sum (sizes_of n) ≡ state_size n
  unfolding sizes_of state_size wires_size
  sizes_sum = sum_append (map wire_size n.wires) (map own_size n.procs)

  sizes_most : sum (sizes_of n) ≤ 61088
  sizes_most = omega (arith, sizes_sum, state_most s x (valid s t c h) [] (bare_good s t c h))

  -- a start is small, and the next one is the size further on
  pub start_small : (j : ℕ) → start_of (sizes_of n) j ≤ 61088
  start_small j = omega (arith, start_most (sizes_of n) j, sizes_most)

  pub start_on : (j at v : ℕ) → j < c.wires + (c.boxes + c.inputs + c.outputs) → at ≡ start_of (sizes_of n) j → v ≡ get_or (sizes_of n) j 0 → at + v ≡ start_of (sizes_of n) (j + 1)
  start_on j at v l e f = omega (arith, e, f, start_next (sizes_of n) j (omega (arith, sizes_length)))

  pub size_wire : (j k : ℕ) → j < c.wires → k ≡ (wire n j).capacity → 1 + 5 * k ≡ get_or (sizes_of n) j 0
  unfolding sizes_of wire_size wire
  size_wire j k l e =
      sym (get_or-append (map wire_size n.wires) (map own_size n.procs) 0 j (omega (arith, length-map n.wires wire_size, wires_n))
      ∙ get_d_map_lt wire_size n.wires j no_wire 0 (omega (arith, wires_n)) ∙ ap (λ (i : ℕ). 1 + 5 * i) (sym e))

  -- segment wires + k is process k's
  own_size_lem : (k : ℕ) → k < c.boxes + c.inputs + c.outputs → get_or (sizes_of n) (c.wires + k) 0 ≡ own_size (proc n k)
  unfolding sizes_of proc
  own_size_lem k l =
      ap (λ (i : ℕ). get_or (map wire_size n.wires ++ map own_size n.procs) (i + k) 0) (sym (length-map n.wires wire_size ∙ wires_n))
      ∙ get_or-append-add (map wire_size n.wires) (map own_size n.procs) k 0
      ∙ get_d_map_lt own_size n.procs k nobody 0 (omega (arith, procs_n))

  -- the sizes of a box, of an input and of an output
  module _ (j k : ℕ) (e : j ≡ c.wires + k) where
    pub size_box : (v : ℕ) → k < c.boxes → v ≡ get_or (body_at s (get_or x.boxes k 0)) 2 0 → 4 * v ≡ get_or (sizes_of n) j 0
    unfolding own_size box_at box_of
    size_box v l q =
        rw e (sym (own_size_lem k (omega arith) ∙ ap own_size (box_proc s x [] k (omega (arith, n_boxes s t c h)))
        ∙ ap (λ (i : ℕ). 4 * i) (length-tabulate (get_or (body_at s (get_or x.boxes k 0)) 2 0) _ ∙ sym q)))

    pub size_input : c.boxes ≤ k → k < c.boxes + c.inputs → 2 ≡ get_or (sizes_of n) j 0
    unfolding own_size
    size_input from to = rw e (sym (own_size_lem k (omega arith) ∙ ap own_size (input_is s t c h k from to [])))

    pub size_output : (v : ℕ) → c.boxes + c.inputs ≤ k → k < c.boxes + c.inputs + c.outputs → v ≡ room_at (proc n k) → 2 + 5 * v ≡ get_or (sizes_of n) j 0
    unfolding own_size
    size_output v from to q = rw e (sym (own_size_lem k to ∙ ap own_size (output_is s t c h k from to []) ∙ ap (λ (i : ℕ). 2 + 5 * i) (sym q)))

-- ── the loop ─────────────────────────────────────────────────────────────────────────────────

-- the starts of the first j segments stand in the table
pub record SoFar (n : Net) (p : List ℕ) (j : ℕ) : Type 0 where
  pub each : (i : ℕ) → i < j → get_or p i 0 ≡ start_of (sizes_of n) i

pub so_far_next : (n : Net) (p : List ℕ) (j v : ℕ) → SoFar n p j → j < length p → v ≡ start_of (sizes_of n) j → SoFar n (set p j v) (j + 1)
so_far_next n p j v q l e = record { each = λ i h. by_place i h (ℕ_discrete i j) }
  where
    by_place : (i : ℕ) → i < j + 1 → Dec (i ≡ j) → get_or (set p j v) i 0 ≡ start_of (sizes_of n) i
    by_place i h (yes z) = rw z (get_or-set_same p j v 0 l ∙ e)
    by_place i h (no f) = get_or-set_other p j i v 0 f ∙ q.each i (omega (arith, h, f))

-- with the end behind the last, all stand there
pub so_far_all : (n : Net) (p : List ℕ) (j k v : ℕ) → j ≡ length (sizes_of n) → k ≡ j → SoFar n p j → j < length p → v ≡ start_of (sizes_of n) j → Placed n (set p k v)
so_far_all n p j k v l z q h e = rw z (record { at = λ i g. (so_far_next n p j v q h e).each i (omega (arith, g, l)) })

-- ── spans ────────────────────────────────────────────────────────────────────────────────────

-- segment j lies there
record Spans (n : Net) (j : ℕ) (r : Span) : Type 0 where
  start : r.start ≡ start_of (sizes_of n) j
  end : r.end ≡ r.start + get_or (sizes_of n) j 0
  inside : r.end ≤ state_size n

module _ (s t p : List ℕ) (c : Counts) (h : Tabled s t c) (placed : Placed (net_of s (index_in t c) []) p) where
  abbrev m : Net
  m = net_of s (index_in t c) []

  span_is : (j : ℕ) (r : Span) → j < c.wires + (c.boxes + c.inputs + c.outputs) → Between p j r → Spans m j r
  span_is j r l q =
      let i : j < length (sizes_of m) = omega (arith, sizes_length s t c h) in
      let a : r.start ≡ start_of (sizes_of m) j = q.start ∙ placed.at j (omega (arith, i)) in
      let z : r.end ≡ start_of (sizes_of m) (j + 1) = q.end ∙ placed.at (j + 1) (omega (arith, i)) in
      record {
        start = a;
        end = omega (arith, a, z, start_next (sizes_of m) j i);
        inside = omega (arith, z, start_most (sizes_of m) (j + 1), sizes_sum s t c h);
      }

  pub wire_span_is : (w j : ℕ) (r : Span) → w < c.wires → j ≡ w → Between p j r → WireSpan m w r
  unfolding wire_start sizes_of wire
  wire_span_is w j r l e b =
      let q = span_is j r (omega (arith, e, l)) b in
      let sizes = map wire_size m.wires in
      let long : length sizes ≡ c.wires = length-map m.wires wire_size ∙ wires_n s t c h in
      record {
        start = q.start ∙ ap (start_of (sizes ++ map own_size m.procs)) e ∙ start_first sizes (map own_size m.procs) w (omega (arith, long));
        end = q.end ∙ ap (λ (k : ℕ). r.start + k) (ap (λ (i : ℕ). get_or (sizes ++ map own_size m.procs) i 0) e ∙ get_or-append sizes (map own_size m.procs) 0 w (omega (arith, long)) ∙ get_d_map_lt wire_size m.wires w no_wire 0 (omega (arith, wires_n s t c h)));
        inside = q.inside;
      }

  pub own_span_is : (k j : ℕ) (r : Span) → k < c.boxes + c.inputs + c.outputs → j ≡ c.wires + k → Between p j r → OwnSpan m k r
  unfolding own_start sizes_of wires_size
  own_span_is k j r l e b =
      let q = span_is j r (omega (arith, e, l)) b in
      let sizes = map wire_size m.wires in
      let long : c.wires ≡ length sizes = sym (length-map m.wires wire_size ∙ wires_n s t c h) in
      let f : j ≡ length sizes + k = e ∙ ap (λ (i : ℕ). i + k) long in
      record {
        start = q.start ∙ ap (start_of (sizes ++ map own_size m.procs)) f ∙ start_second sizes (map own_size m.procs) k;
        end = q.end ∙ ap (λ (i : ℕ). r.start + i) (ap (λ (i : ℕ). get_or (sizes ++ map own_size m.procs) i 0) e ∙ (unfold sizes_of in own_size_lem s t c h k l));
        inside = q.inside;
      }
