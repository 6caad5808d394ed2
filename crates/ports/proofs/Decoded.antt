-- The ports of the decoded processes are those of the offsets. Assumes nothing.
use Prim.Native.Nat.{ℕ, suc, ◌+◌, ◌≤◌, ◌<◌}
use mathlib.Core.Path.{◌≡◌, refl, ap, ◌∙◌, sym}
use mathlib.Core.List.{List, [], ◌∷◌, ◌++◌, map, append_assoc}
use mathlib.Core.Bool.{true, false, ◌&&◌}
use lib.ListN.{length, get_or, replicate, length-map}
use lib.Dec.{eqb, ltb}
use native.Mathlib.Omega.{arith}
use lib.Seq.{drop-cons}
use borrow.Author.Tests.{eqb-true}
use Rattle.model.specs.Bytes.{two_at, stretch}
use Rattle.model.specs.Network.{Proc, box, ins_of, outs_of}
use Rattle.model.specs.NetworkFile.{Index, tabulate, input_form, output_form, body_at, box_of, wire_of, wires_of, box_at, input_at, output_at, net_of, count, ports, ports_fit, lowest_from, odd_wire}
use Rattle.shapes.specs.Shapes.{BoxFits}
use Rattle.table.specs.declared.Counts.{Counts}
use Rattle.table.specs.Table.{region, index_in, Within}
use Rattle.model.proofs.Accepted.{Valid}
use Rattle.model.proofs.Tests.{and_left}
use Rattle.model.proofs.Decoded.{length-stretch}
use Rattle.table.proofs.Regions.{region_at, region-length}
use Rattle.table.proofs.Lengths.{box_fits, boxes_n}
use Rattle.ports.specs.Ports.{ports_at, box_ports, end_port, tally_of, fits_in, BoxesFit}
use Rattle.ports.proofs.Counts.{tally_append, counted, lowest_same}

ports-append : (f : Proc → List ℕ) (xs ys : List Proc) → ports f (xs ++ ys) ≡ ports f xs ++ ports f ys
unfolding ports
ports-append f [] ys = refl
ports-append f (x ∷ xs) ys = ap (λ (l : List ℕ). f x ++ l) (ports-append f xs ys) ∙ sym (append_assoc (f x) (ports f xs) (ports f ys))

-- processes that stand for the fields at these offsets
ports_of_lem : (f : Proc → List ℕ) (g : ℕ → Proc) (h : ℕ → List ℕ) (os : List ℕ) → ((k : ℕ) → f (g k) ≡ h (get_or os k 0)) → ports f (tabulate (length os) g) ≡ ports_at h os
unfolding ports tabulate ports_at
ports_of_lem f g h [] e = refl
ports_of_lem f g h (o ∷ os) e = λ i. e 0 i ++ ports_of_lem f (λ k. g (suc k)) h os (λ k. e (suc k)) i

no_ports : (os : List ℕ) → ports_at (λ o. []) os ≡ []
unfolding ports_at
no_ports [] = refl
no_ports (o ∷ os) = no_ports os

no_more : (l : List ℕ) → l ++ [] ≡ l
no_more [] = refl
no_more (x ∷ l) = ap (λ (m : List ℕ). x ∷ m) (no_more l)

module _ (s : List ℕ) (x : Index) where
  abbrev procs : List Proc
  procs = (net_of s x []).procs

  three : (f : Proc → List ℕ) (g h k : ℕ → List ℕ) → ((i : ℕ) → f (box (box_at s x i)) ≡ g (get_or x.boxes i 0)) → ((i : ℕ) → f (input_at s x [] i) ≡ h (get_or x.inputs i 0)) → ((i : ℕ) → f (output_at s x i) ≡ k (get_or x.outputs i 0)) → ports f procs ≡ (ports_at g x.boxes ++ ports_at h x.inputs) ++ ports_at k x.outputs
  unfolding net_of
  three f g h k a b c =
      let bs = tabulate (length x.boxes) (λ i. box (box_at s x i)) in
      let is = tabulate (length x.inputs) (input_at s x []) in
      let os = tabulate (length x.outputs) (output_at s x) in
      ports-append f (bs ++ is) os
      ∙ ap (λ (l : List ℕ). l ++ ports f os) (ports-append f bs is)
      ∙ (λ i. (ports_of_lem f (λ j. box (box_at s x j)) g x.boxes a i ++ ports_of_lem f (input_at s x []) h x.inputs b i) ++ ports_of_lem f (output_at s x) k x.outputs c i)

  pub readers : ports ins_of procs ≡ ports_at (box_ports false s) x.boxes ++ ports_at (end_port s) x.outputs
  unfolding ins_of box_at input_at output_at box_ports end_port
  readers =
      three ins_of (box_ports false s) (λ o. []) (end_port s) (λ k. refl) (λ k. refl) (λ k. refl)
      ∙ ap (λ (l : List ℕ). (ports_at (box_ports false s) x.boxes ++ l) ++ ports_at (end_port s) x.outputs) (no_ports x.inputs)
      ∙ ap (λ (l : List ℕ). l ++ ports_at (end_port s) x.outputs) (no_more (ports_at (box_ports false s) x.boxes))

  pub writers : ports outs_of procs ≡ ports_at (box_ports true s) x.boxes ++ ports_at (end_port s) x.inputs
  unfolding outs_of box_at input_at output_at box_ports end_port
  writers =
      three outs_of (box_ports true s) (end_port s) (λ o. []) (λ k. refl) (λ k. refl) (λ k. refl)
      ∙ ap (λ (l : List ℕ). (ports_at (box_ports true s) x.boxes ++ ports_at (end_port s) x.inputs) ++ l) (no_ports x.outputs)
      ∙ no_more (ports_at (box_ports true s) x.boxes ++ ports_at (end_port s) x.inputs)

-- the counts in two steps, boxes and then ends
counts_of : (r0 rs xs ys zs : List ℕ) → r0 ≡ tally_of (replicate 64 0) xs → rs ≡ tally_of r0 ys → zs ≡ xs ++ ys → (k : ℕ) → k < 64 → eqb (get_or rs k 0) 1 ≡ eqb (count k zs) 1
counts_of r0 rs xs ys zs e d f k h =
    ap (λ (l : List ℕ). eqb (get_or l k 0) 1) (d ∙ ap (λ (l : List ℕ). tally_of l ys) e ∙ sym (tally_append (replicate 64 0) xs ys))
    ∙ counted (xs ++ ys) k h
    ∙ ap (λ (l : List ℕ). eqb (count k l) 1) (sym f)

module _ (s t : List ℕ) (c : Counts) (w : Within c) (room : 656 ≤ length t) where
  pub odd_is : (r0 rs w0 ws : List ℕ)
      → r0 ≡ tally_of (replicate 64 0) (ports_at (box_ports false s) (region 64 c.boxes t)) → rs ≡ tally_of r0 (ports_at (end_port s) (region 648 c.outputs t))
      → w0 ≡ tally_of (replicate 64 0) (ports_at (box_ports true s) (region 64 c.boxes t)) → ws ≡ tally_of w0 (ports_at (end_port s) (region 640 c.inputs t))
      → lowest_from (fits_in rs ws) 0 c.wires ≡ odd_wire (net_of s (index_in t c) [])
  unfolding odd_wire ports_fit fits_in index_in net_of wires_of
  odd_is r0 rs w0 ws a b d e =
      let x = index_in t c in
      let n : length (map (wire_of s) (region 0 c.wires t)) ≡ c.wires = length-map (region 0 c.wires t) (wire_of s) ∙ region-length 0 c.wires t (omega arith) in
      lowest_same (fits_in rs ws) (ports_fit (net_of s x []).procs) 0 c.wires 64 (λ k h. λ i. counts_of r0 rs _ _ _ a b (readers s x) k h i && counts_of w0 ws _ _ _ d e (writers s x) k h i) (omega arith)
      ∙ ap (lowest_from (ports_fit (net_of s x []).procs) 0) (sym n)

  boxes_fit : Valid s (index_in t c) → BoxesFit s t c.boxes
  unfolding index_in
  boxes_fit S = record { each = λ k h. let n = boxes_n t c room w in rw (← region_at 64 c.boxes t k h) (box_fits s _ k _ (S.boxes k (omega arith))) }

  -- what the fields at the offsets of boxes, inputs and outputs give
  module _ (S : Valid s (index_in t c)) (os : List ℕ) where
    pub box_at_fits : os ≡ region 64 c.boxes t → (k : ℕ) → k < length os → BoxFits s (get_or os k 0)
    box_at_fits e k h =
        let n : k < c.boxes = omega (arith, ap length e, region-length 64 c.boxes t (omega arith)) in
        rw (e, region_at 64 c.boxes t k n) ((boxes_fit S).each k n)

    pub input_inside : os ≡ region 640 c.inputs t → (k : ℕ) → k < length os → get_or os k 0 + 4 ≤ length s
    unfolding index_in input_form body_at
    input_inside e k h =
        let n : k < length (region 640 c.inputs t) = omega (arith, ap length e) in
        let o : ℕ = get_or (region 640 c.inputs t) k 0 in
        let q = S.inputs k n in
        let b : List ℕ = stretch s (o + 3) (two_at s (o + 1)) in
        let l = eqb-true (length b) 1 (and_left (eqb (length b) 1) (ltb (get_or b 0 0) (length (region 0 c.wires t))) q.passes.form) in
        rw e (omega (arith, l, q.in-file.whole, length-stretch s (o + 3) (two_at s (o + 1)) q.in-file.whole))

    pub output_inside : os ≡ region 648 c.outputs t → (k : ℕ) → k < length os → get_or os k 0 + 4 ≤ length s
    unfolding index_in output_form body_at
    output_inside e k h =
        let n : k < length (region 648 c.outputs t) = omega (arith, ap length e) in
        let o : ℕ = get_or (region 648 c.outputs t) k 0 in
        let q = S.outputs k n in
        let b : List ℕ = stretch s (o + 3) (two_at s (o + 1)) in
        let l = eqb-true (length b) 3 (and_left (eqb (length b) 3) (ltb (get_or b 0 0) (length (region 0 c.wires t))) q.passes.form) in
        rw e (omega (arith, l, q.in-file.whole, length-stretch s (o + 3) (two_at s (o + 1)) q.in-file.whole))

-- the wire of an input or output, read as a part
pub end_is : (s r : List ℕ) (at : ℕ) → at + 4 ≤ length s → r ≡ stretch s (at + 3) 1 → r ≡ end_port s at
unfolding stretch end_port
end_is s r at h e = e ∙ rw (drop-cons s (at + 3) 0 (omega arith)) refl

-- the ports of one box
module _ (s b r : List ℕ) (at i n : ℕ) (e : b ≡ body_at s at) (f : i ≡ get_or b 0 0) where
  pub outs_are : n ≡ get_or b 1 0 → r ≡ stretch b (3 + i) n → r ≡ box_ports true s at
  unfolding box_ports box_of
  outs_are g h = rw (← e, ← f, ← g) h

pub ins_are : (s b r : List ℕ) (at i : ℕ) → b ≡ body_at s at → i ≡ get_or b 0 0 → r ≡ stretch b 3 i → r ≡ box_ports false s at
unfolding box_ports box_of
ins_are s b r at i e f h = rw (← e, ← f) h
