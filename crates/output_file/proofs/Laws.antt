-- The output file, field by field.
-- Assumes nothing.
use Prim.Native.Nat.{ℕ, zero, suc, ◌+◌, ◌-◌, ◌*◌, ◌≤◌, ◌<◌}
use mathlib.Core.Path.{◌≡◌, refl, sym, ap, ap₂, ◌∙◌}
use mathlib.Core.Bool.{Bool, true, false}
use mathlib.Core.List.{List, [], ◌∷◌, ◌++◌, map, zip_with, append_assoc, append-nil}
use native.Mathlib.Omega.{arith}
use native.Mathlib.Numerals.{add-one}
use lib.ListN.{length, get_or, take, drop, length-append, length-map, length-drop, drop_of_length-le}
use lib.Seq.{take-add, take_all, take_at, drop_at, drop-cons, drop-drop, drop-append_seam, take-append_seam, length-take-le, get_or-take, get_or-drop}
use Rattle.model.specs.Bytes.{two_at}
use Rattle.model.specs.Network.{Proc, box, output, Net, proc, wire, nobody}
use Rattle.model.specs.NetworkFile.{Index, box_at, input_at, net_of}
use Rattle.model.specs.States.{own_size, wires_size, sum, cat, split, own_in, read_tokens, room_fits, own_fits, state_fits, state_in, output_field, output_file}
use Rattle.model.proofs.Tests.{and_left, and_right}
use Rattle.model.proofs.Decoded.{length-tabulate, get_d_map_lt}
use Rattle.model.proofs.Lookup.{procs_length}
use Rattle.model.proofs.Sizes.{map-append}
use Rattle.table.specs.declared.Counts.{Counts}
use Rattle.table.specs.Table.{index_in}
use Rattle.octets.proofs.Laws.{Octets}
use Rattle.queues.specs.Segments.{mid, put_mid, start_of, own_start}
use Rattle.queues.proofs.Segments.{start_first}
use Rattle.queues.proofs.Reading.{octets-take, octets-drop, length_read}
use Rattle.queues.proofs.Whole.{own_in_lem}
use Rattle.lookup.specs.Tabled.{Tabled}
use Rattle.lookup.specs.Ends.{wire_at, room_at}
use Rattle.lookup.proofs.Tabled.{n_boxes, n_inputs, n_outputs, output_is, output_good}
use Rattle.tokens.specs.Parts.{field_bytes}
use Rattle.tokens.proofs.Lifts.{output_needs, field_in, fits_output, length_field}
use Rattle.tokens.proofs.Turns.{start_turn, start_all, boxes_of, inputs_of, outputs_of, file_of, file_net}
use Rattle.states.specs.Saved.{Holds, wires_fit, owns_fit}
use Rattle.states.proofs.Fits.{owns_turn, state_is}
use Rattle.output_file.specs.Files.{field_on, file_from, IsOutput}

-- ── one field more ───────────────────────────────────────────────────────────────────────────

pub file_turn : (n : Net) (st : List ℕ) (k : ℕ) → k < length n.procs → file_from n st k ≡ field_on n st k ++ file_from n st (k + 1)
unfolding file_from field_on own_start proc cat split zip_with
file_turn n st k l =
    let sizes : List ℕ = map own_size n.procs in
    let p : Proc = get_or n.procs k nobody in
    let a : ℕ = wires_size n + start_of sizes k in
    let m : a + own_size p ≡ wires_size n + start_of sizes (k + 1)
    = omega (arith, start_turn sizes k (omega (arith, length-map n.procs own_size)), get_d_map_lt own_size n.procs k nobody 0 l) in
    ap (λ (ps : List Proc). file_of ps (drop a st)) (drop-cons n.procs k nobody l ∙ ap (λ (j : ℕ). p ∷ drop j n.procs) (sym (add-one k)))
    ∙ ap (λ (x : List ℕ). output_field p (own_in p (mid a (own_size p) st)) ++ file_of (drop (k + 1) n.procs) x) (drop-drop (own_size p) a st ∙ ap (λ (j : ℕ). drop j st) m)

pub file_done : (n : Net) (st : List ℕ) (k : ℕ) → length n.procs ≤ k → file_from n st k ≡ []
unfolding file_from cat split zip_with
file_done n st k l = rw (drop_of_length-le n.procs l)

-- ── each process of a state that fits ────────────────────────────────────────────────────────

owns_true : (n : Net) (st : List ℕ) (counted : Bool) → owns_fit n counted 0 st ≡ true → (k : ℕ) → k ≤ length n.procs → owns_fit n counted k st ≡ true
owns_true n st counted e zero l = e
owns_true n st counted e (suc k) l =
    let f : Bool = own_fits n counted (proc n k) (mid (own_start n k) (own_size (proc n k)) st) in
    let t = owns_turn n st counted k f f (omega arith) refl refl in
    ap (λ (j : ℕ). owns_fit n counted j st) (sym (add-one k)) ∙ and_right f (owns_fit n counted (k + 1) st) (sym t ∙ owns_true n st counted e k (omega arith))

own_true : (n : Net) (st : List ℕ) (counted : Bool) → state_fits n counted st ≡ true → (k : ℕ) → k < length n.procs → own_fits n counted (proc n k) (mid (own_start n k) (own_size (proc n k)) st) ≡ true
own_true n st counted e k l =
    let f : Bool = own_fits n counted (proc n k) (mid (own_start n k) (own_size (proc n k)) st) in
    let all = and_right (wires_fit n 0 st) (owns_fit n counted 0 st) (sym (state_is n st counted) ∙ e) in
    and_left f (owns_fit n counted (k + 1) st) (sym (owns_turn n st counted k f f l refl refl) ∙ owns_true n st counted all k (omega arith))

-- ── the field of an output ───────────────────────────────────────────────────────────────────

field_long : (w room : ℕ) (part : List ℕ) → length (output_field (output w room) (own_in (output w room) part)) ≡ 3 + 5 * two_at part 0
unfolding own_in
field_long w room part = length_field w room (read_tokens (two_at part 0) (drop 2 part)) ∙ ap (λ (j : ℕ). 3 + 5 * j) (length_read (two_at part 0) (drop 2 part))

-- what field_out asks of the part at a span, and what it writes
pub record OutputPart (n : Net) (st : List ℕ) (k : ℕ) (part : List ℕ) : Type 0 where
  pub few : two_at part 0 ≤ 1000
  pub whole : 2 + 5 * two_at part 0 ≤ length part
  pub field : field_bytes part ≡ field_on n st k
  pub sized : 3 + 5 * two_at part 0 ≡ length (field_on n st k)

module _ (s t st : List ℕ) (c : Counts) (h : Tabled s t c) (g : Holds (net_of s (index_in t c) []) false st) (o : Octets st) (k : ℕ) (q : IsOutput c k) where
  abbrev x : Index
  x = index_in t c

  abbrev n : Net
  n = net_of s x []

  abbrev part : List ℕ
  part = mid (own_start n k) (own_size (proc n k)) st

  pub in-procs : k < length n.procs
  in-procs = omega (arith, procs_length s x [], n_boxes s t c h, n_inputs s t c h, n_outputs s t c h, q.most)

  abbrev w : ℕ
  w = wire_at (proc n k)

  abbrev room : ℕ
  room = room_at (proc n k)

  is_output_lem : proc n k ≡ output w room
  is_output_lem = output_is s t c h k q.least q.most []

  pub output_at_lem : OutputPart n st k part
  unfolding field_on own_size
  output_at_lem =
      let b : Octets part = octets-take (own_size (proc n k)) (drop (own_start n k) st) (octets-drop (own_start n k) st o) in
      let size : own_size (proc n k) ≡ 2 + 5 * room = ap own_size is_output_lem in
      let e : length (drop (own_start n k) st) ≡ length st - own_start n k = length-drop (own_start n k) st in
      let long : length part ≡ 2 + 5 * room = length-take-le (own_size (proc n k)) (drop (own_start n k) st) (omega (arith, e, own_in_lem n k in-procs, g.long)) ∙ size in
      let fits : room_fits (wire n w).ty room (two_at part 0) (drop 2 part) ≡ true =
      sym (fits_output n false w room part) ∙ ap (λ (v : Proc). own_fits n false v part) (sym is_output_lem) ∙ own_true n st false g.fits k in-procs in
      let few = output_needs (wire n w).ty room part b (output_good s t c h k q.least q.most).2 long fits in
      let field : field_bytes part ≡ output_field (proc n k) (own_in (proc n k) part) = field_in w room part b few.1 ∙ ap (λ (v : Proc). output_field v (own_in v part)) (sym is_output_lem) in
      record {
        few = few.0;
        whole = few.1;
        field = field;
        sized = sym (ap (λ (v : Proc). length (output_field v (own_in v part))) is_output_lem ∙ field_long w room part);
      }

  -- the same of a part told otherwise: what field_out asks, and what it writes
  pub part_needs : (part' out : List ℕ) → part' ≡ part → length (field_on n st k) ≤ length out → (two_at part' 0 ≤ 1000) × ((2 + 5 * two_at part' 0 ≤ length part') × (3 + 5 * two_at part' 0 ≤ length out))
  part_needs part' out e l = let y = output_at_lem in rw e (y.few, (y.whole, omega (arith, y.sized, l)))

  pub part_writes : (part' out last : List ℕ) (r : ℕ) → part' ≡ part → r ≡ 3 + 5 * two_at part' 0 → last ≡ field_bytes part' ++ drop (3 + 5 * two_at part' 0) out →
      (r ≡ length (field_on n st k)) × (last ≡ field_on n st k ++ drop (length (field_on n st k)) out)
  part_writes part' out last r e f d =
      let y = output_at_lem in
      let size : 3 + 5 * two_at part' 0 ≡ length (field_on n st k) = ap (λ (l : List ℕ). 3 + 5 * two_at l 0) e ∙ y.sized in
      (f ∙ size, d ∙ ap₂ (λ (u : List ℕ) (j : ℕ). u ++ drop j out) (ap field_bytes e ∙ y.field) size)

  -- the part at a span, and the count that stands first in it
  pub part_at : (a b : ℕ) → a ≡ own_start n k → b ≡ a + own_size (proc n k) → mid a (b - a) st ≡ part
  part_at a b e f = let d : b - a ≡ own_size (proc n k) = omega (arith, f) in ap₂ (λ (j m : ℕ). mid j m st) e d

  pub count_at : (a r : ℕ) → a ≡ own_start n k → r ≡ two_at st a → r ≡ two_at part 0
  unfolding two_at own_size
  count_at a r e f =
      let size : own_size (proc n k) ≡ 2 + 5 * room = ap own_size is_output_lem in
      let byte : (j : ℕ) → j < 2 → get_or part j 0 ≡ get_or st (own_start n k + j) 0 = λ j l. get_or-take (own_size (proc n k)) (drop (own_start n k) st) j 0 (omega (arith, l, size)) ∙ get_or-drop (own_start n k) st j 0 in
      let z : own_start n k + 0 ≡ a = omega (arith, e) in
      f ∙ ap₂ (λ (u v : ℕ). u * 256 + v) (ap (λ (j : ℕ). get_or st j 0) (sym z) ∙ sym (byte 0 (omega arith))) (ap (λ (j : ℕ). get_or st (j + 1) 0) e ∙ sym (byte 1 (omega arith)))

-- ── the whole file ───────────────────────────────────────────────────────────────────────────

procs_total : (s t : List ℕ) (c : Counts) → Tabled s t c → length (net_of s (index_in t c) []).procs ≡ c.boxes + c.inputs + c.outputs
procs_total s t c h = procs_length s (index_in t c) [] ∙ omega (arith, n_boxes s t c h, n_inputs s t c h, n_outputs s t c h)

-- the fields of the outputs are all of it
pub file_all : (s t st : List ℕ) (c : Counts) → Tabled s t c → output_file (net_of s (index_in t c) []) (state_in (net_of s (index_in t c) []) st) ≡ file_from (net_of s (index_in t c) []) st (c.boxes + c.inputs)
unfolding file_from own_start net_of
file_all s t st c h =
    let y : Index = index_in t c in
    let front : List Proc = boxes_of s y ++ inputs_of s y [] in
    let k : ℕ = c.boxes + c.inputs in
    let long : length front ≡ k = length-append (boxes_of s y) (inputs_of s y []) ∙ omega (arith, length-tabulate (length y.boxes) (λ b. box (box_at s y b)), length-tabulate (length y.inputs) (input_at s y []), n_boxes s t c h, n_inputs s t c h) in
    let start : start_of (map own_size (front ++ outputs_of s y)) k ≡ sum (map own_size front) =
    ap (λ (l : List ℕ). start_of l k) (map-append own_size front (outputs_of s y)) ∙ start_first (map own_size front) (map own_size (outputs_of s y)) k (omega (arith, length-map front own_size, long))
    ∙ start_all (map own_size front) k (omega (arith, length-map front own_size, long)) in
    file_net s y [] st ∙ sym (ap₂ (λ (ps : List Proc) (m : ℕ). file_of ps (drop (wires_size (net_of s y []) + m) st)) (drop_at front (outputs_of s y) k long) start)

module _ (s t st : List ℕ) (c : Counts) (h : Tabled s t c) where
  abbrev whole : Net
  whole = net_of s (index_in t c) []

  pub is_process : (k : ℕ) → k < c.boxes + c.inputs + c.outputs → k < length whole.procs
  is_process k l = omega (arith, procs_total s t c h, l)

  pub no_process : (k : ℕ) → c.boxes + c.inputs + c.outputs ≤ k → length whole.procs ≤ k
  no_process k l = omega (arith, procs_total s t c h, l)

  pub room_for : (out : List ℕ) → length (output_file whole (state_in whole st)) ≤ length out → length (file_from whole st (c.boxes + c.inputs)) ≤ length out
  room_for out l = omega (arith, l, ap (λ (x : List ℕ). length x) (file_all s t st c h))

-- ── the file, written ────────────────────────────────────────────────────────────────────────

-- the first at bytes of the file are written, and the fields of the processes from k on are left
pub record Written (n : Net) (st : List ℕ) (first : ℕ) (out₀ out : List ℕ) (at k : ℕ) : Type 0 where
  pub few : at ≤ length (file_from n st first)
  pub front : out ≡ take at (file_from n st first) ++ drop at out₀
  pub left : drop at (file_from n st first) ≡ file_from n st k

pub written_first : (n : Net) (st : List ℕ) (first : ℕ) (out₀ : List ℕ) → Written n st first out₀ out₀ 0 first
written_first n st first out₀ = record { few = omega arith; front = refl; left = refl }

module _ (n : Net) (st : List ℕ) (first : ℕ) (out₀ out : List ℕ) (at k : ℕ) (w : Written n st first out₀ out at k) where
  abbrev file : List ℕ
  file = file_from n st first

  abbrev f : List ℕ
  f = field_on n st k

  left_is : k < length n.procs → drop at file ≡ f ++ file_from n st (k + 1)
  left_is l = w.left ∙ file_turn n st k l

  field_in_file : k < length n.procs → at + length f ≤ length file
  field_in_file l = omega (arith, length-drop at file, ap (λ (x : List ℕ). length x) (left_is l), length-append f (file_from n st (k + 1)), w.few)

  -- there is room for the field
  pub written-room : k < length n.procs → length file ≤ length out₀ → at + length f ≤ length out₀
  written-room l m = omega (arith, field_in_file l, m)

  -- the field of process k behind those before it
  pub written_next : (r : ℕ) (last : List ℕ) → k < length n.procs → length file ≤ length out₀ → r ≡ length f → last ≡ f ++ drop (length f) (mid at (length out - at) out) →
      Written n st first out₀ (put_mid at (length out - at) out last) (at + r) (k + 1)
  written_next r last l m g q =
      let z : ℕ = length out - at in
      let long : length (take at file) ≡ at = length-take-le at file w.few in
      let back : drop at out ≡ drop at out₀ = ap (drop at) w.front ∙ drop_at (take at file) (drop at out₀) at long in
      let start : take at out ≡ take at file = ap (take at) w.front ∙ take_at (take at file) (drop at out₀) at long in
      let few : length (drop at out₀) ≤ z = omega (arith, length-drop at out, ap (λ (y : List ℕ). length y) back) in
      let one : mid at z out ≡ drop at out₀ = ap (take z) back ∙ take_all z (drop at out₀) few in
      let none : drop z (drop at out) ≡ [] = ap (drop z) back ∙ drop_of_length-le (drop at out₀) few in
      let more : take (at + length f) file ≡ take at file ++ f = take-add at (length f) file ∙ ap (λ (y : List ℕ). take at file ++ y) (ap (take (length f)) (left_is l) ∙ take-append_seam f (file_from n st (k + 1))) in
      record {
        few = omega (arith, field_in_file l, g);
        front = ap₂ (λ (u v : List ℕ). u ++ v) start
            (ap₂ (λ (u v : List ℕ). u ++ v) (q ∙ ap (λ (y : List ℕ). f ++ drop (length f) y) one) none ∙ append-nil (f ++ drop (length f) (drop at out₀)) ∙ ap (λ (y : List ℕ). f ++ y) (drop-drop (length f) at out₀))
            ∙ sym (append_assoc (take at file) f (drop (at + length f) out₀)) ∙ ap (λ (y : List ℕ). y ++ drop (at + length f) out₀) (sym more)
            ∙ ap (λ (j : ℕ). take (at + j) file ++ drop (at + j) out₀) (sym g);
        left = ap (λ (j : ℕ). drop (at + j) file) g ∙ sym (drop-drop (length f) at file) ∙ ap (drop (length f)) (left_is l) ∙ drop-append_seam f (file_from n st (k + 1));
      }

  -- all written
  pub written_last : length n.procs ≤ k → out ≡ file ++ drop (length file) out₀
  written_last l =
      let z : at ≡ length file = omega (arith, length-drop at file, ap (λ (x : List ℕ). length x) (w.left ∙ file_done n st k l), w.few) in
      w.front ∙ ap (λ (j : ℕ). take j file ++ drop j out₀) z ∙ ap (λ (y : List ℕ). y ++ drop (length file) out₀) (take_all (length file) file (omega arith))
