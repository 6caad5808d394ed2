-- How many fields of each kind an accepted file has, and how large its state is at most.
-- Assumes nothing.
use mathlib.Core.Path.{◌≡◌, refl, ap, subst}
use mathlib.Core.List.{List, [], ◌∷◌, ◌++◌, map}
use Prim.Native.Nat.{ℕ, suc, ◌+◌, ◌*◌, ◌≤◌, ◌<◌}
use native.Mathlib.Omega.{arith}
use native.Mathlib.Nat.{mul-suc}
use native.Mathlib.Decide.{dec_lt}
use lib.ListN.{length}
use borrow.Author.Tests.{ltb-true}
use Rattle.model.specs.declared.Token.{Token}
use Rattle.model.specs.Network.{box, Net, no_wire, nobody, proc}
use Rattle.model.specs.NetworkFile.{Index, tabulate, box_at, input_at, output_at, net_of}
use Rattle.model.specs.States.{wire_size, own_size, sum, wires_size, state_size}
use Rattle.model.proofs.Accepted.{Valid, wire_count, box_count, output_count}
use Rattle.model.proofs.Decoded.{Each, each_tabulate, length-tabulate, GoodProc, GoodNet, box_good}
use Rattle.model.proofs.Lookup.{wires_length, procs_length, output_proc}

-- none stands at k: there are k at most
at_most : (k m : ℕ) → (k < m → ⊥) → m ≤ k
at_most k m f = by_order (dec_lt k m)
  where
    by_order : Dec (k < m) → m ≤ k
    by_order (yes h) = absurd (f h)
    by_order (no g) = omega (arith, g)

module _ (s : List ℕ) (x : Index) (q : Valid s x) where
  pub few_wires : length x.wires ≤ 64
  few_wires = at_most 64 (length x.wires) (λ h. omega (arith, wire_count 64 _ (q.wires 64 h).passes.limits))

  pub few_boxes : length x.boxes ≤ 32
  few_boxes = at_most 32 (length x.boxes) (λ h. omega (arith, box_count 32 _ (q.boxes 32 h).passes.limits))

  pub few_inputs : length x.inputs ≤ 8
  few_inputs = at_most 8 (length x.inputs) (λ h. omega (arith, ltb-true 8 8 (q.inputs 8 h).passes.limits))

  pub few_outputs : length x.outputs ≤ 8
  few_outputs = at_most 8 (length x.outputs) (λ h. omega (arith, output_count 8 _ (q.outputs 8 h).passes.limits))

-- ── sums ─────────────────────────────────────────────────────────────────────────────────────

pub sum_append : (a b : List ℕ) → sum (a ++ b) ≡ sum a + sum b
unfolding sum
sum_append [] b = omega arith
sum_append (k ∷ a) b = omega (arith, sum_append a b)

pub map-append : {A B : Type 0} (f : A → B) (xs ys : List A) → map f (xs ++ ys) ≡ map f xs ++ map f ys
map-append f [] ys = refl
map-append {B = B} f (x ∷ xs) ys = ap (λ (l : List B). f x ∷ l) (map-append f xs ys)

-- each at most m: all at most m times their number
sum_most : {A : Type 0} (f : A → ℕ) (d : A) (m : ℕ) (xs : List A) → Each (λ a. f a ≤ m) d xs → sum (map f xs) ≤ m * length xs
unfolding sum
sum_most f d m [] h = omega arith
sum_most f d m (a ∷ xs) h = omega (arith, mul-suc m (length xs), h 0 (omega arith), sum_most f d m xs (λ k g. h (suc k) (omega (arith, g))))

-- ── the largest state ────────────────────────────────────────────────────────────────────────

module _ (s : List ℕ) (x : Index) (q : Valid s x) (tokens : List (List Token)) (g : GoodNet (net_of s x tokens)) where
  abbrev n : Net
  n = net_of s x tokens

  wires_most : wires_size n ≤ 321 * 64
  unfolding wires_size wire_size
  wires_most =
      let e = sum_most wire_size no_wire 321 n.wires (λ w h. (let c = (g.wires w h).most in unfold wire_size in omega arith)) in
      omega (arith, e, wires_length s x tokens, few_wires s x q)

  box_most : (k : ℕ) → k < length x.boxes → own_size (box (box_at s x k)) ≤ 16
  unfolding own_size
  box_most k h = omega (arith, (box_good s x q k h).few_vars)

  input_most : (i : ℕ) → i < length x.inputs → own_size (input_at s x tokens i) ≤ 2
  unfolding own_size input_at
  input_most i h = omega arith

  output_most : (i : ℕ) → i < length x.outputs → own_size (output_at s x i) ≤ 5002
  unfolding own_size output_at proc
  output_most i h =
      let k = length x.boxes + length x.inputs + i in
      let p : GoodProc n (proc n k) = g.procs k (omega (arith, procs_length s x tokens)) in
      let r : GoodProc n (output_at s x i) = subst (GoodProc n) (output_proc s x tokens i h) p in
      omega (arith, r.2)

  owns_most : sum (map own_size n.procs) ≤ 16 * 32 + 2 * 8 + 5002 * 8
  unfolding net_of
  owns_most =
      let bs = tabulate (length x.boxes) (λ b. box (box_at s x b)) in
      let is = tabulate (length x.inputs) (input_at s x tokens) in
      let os = tabulate (length x.outputs) (output_at s x) in
      let a = sum_most own_size nobody 16 bs (each_tabulate (λ p. own_size p ≤ 16) nobody (length x.boxes) _ box_most) in
      let b = sum_most own_size nobody 2 is (each_tabulate (λ p. own_size p ≤ 2) nobody (length x.inputs) _ input_most) in
      let c = sum_most own_size nobody 5002 os (each_tabulate (λ p. own_size p ≤ 5002) nobody (length x.outputs) _ output_most) in
      rw (map-append own_size (bs ++ is) os, map-append own_size bs is, sum_append (map own_size bs ++ map own_size is) (map own_size os), sum_append (map own_size bs) (map own_size is))
      (omega (arith, a, b, c, length-tabulate (length x.boxes) (λ k. box (box_at s x k)), length-tabulate (length x.inputs) (input_at s x tokens), length-tabulate (length x.outputs) (output_at s x), few_boxes s x q, few_inputs s x q, few_outputs s x q))

  -- "The largest state is 61,088 bytes"
  pub state_most : state_size n ≤ 61088
  unfolding state_size
  state_most = omega (arith, wires_most, owns_most)
