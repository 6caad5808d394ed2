-- The first processes of an accepted network are its boxes.
-- Assumes nothing.
use mathlib.Core.Path.{◌≡◌, ap, ◌∙◌}
use mathlib.Core.List.{List}
use Prim.Native.Nat.{ℕ, ◌+◌, ◌-◌, ◌≤◌, ◌<◌}
use native.Mathlib.Omega.{arith}
use native.Mathlib.Decide.{dec_lt}
use lib.ListN.{length}
use Rattle.model.specs.Network.{Proc, proc}
use Rattle.model.specs.NetworkFile.{Index, box_at, input_at, output_at}
use Rattle.model.specs.Cycles.{Mark, box_rule}
use Rattle.model.proofs.Lookup.{box_proc, input_proc, output_proc, procs_length}
use Rattle.table.specs.declared.Counts.{Counts}
use Rattle.table.specs.Table.{index_in}
use Rattle.lookup.specs.Tabled.{Tabled}
use Rattle.lookup.proofs.Tabled.{n_boxes, n_inputs, n_outputs}
use Rattle.places.specs.Standing.{tokens_of, net_in}
use Rattle.marking.proofs.Noting.{Kinds}

module _ (s t ts : List ℕ) (c : Counts) (h : Tabled s t c) where
  abbrev x : Index
  x = index_in t c

  abbrev p : ℕ
  p = c.boxes + c.inputs + c.outputs

  pub all_procs : p ≡ length (net_in s t c ts).procs
  unfolding net_in
  all_procs = omega (arith, procs_length s x (tokens_of s t c ts), n_boxes s t c h, n_inputs s t c h, n_outputs s t c h)

  not_box : (k : ℕ) (q : Mark) → c.boxes ≤ k → k < p → box_rule (proc (net_in s t c ts) k) q ≡ 16
  unfolding net_in box_rule input_at output_at
  not_box k q l m = go (dec_lt k (c.boxes + c.inputs))
    where
      at : (i : ℕ) → k ≡ i → {y : Proc} → proc (net_in s t c ts) i ≡ y → proc (net_in s t c ts) k ≡ y
      at i e f = ap (proc (net_in s t c ts)) e ∙ f

      go : Dec (k < c.boxes + c.inputs) → box_rule (proc (net_in s t c ts) k) q ≡ 16
      go (yes a) = rw (at (length x.boxes + (k - c.boxes)) (omega (arith, l, n_boxes s t c h)) (input_proc s x (tokens_of s t c ts) (k - c.boxes) (omega (arith, a, l, n_inputs s t c h))))
      go (no a) = rw (at (length x.boxes + length x.inputs + (k - c.boxes - c.inputs)) (omega (arith, a, n_boxes s t c h, n_inputs s t c h)) (output_proc s x (tokens_of s t c ts) (k - c.boxes - c.inputs) (omega (arith, a, m, n_outputs s t c h))))

  pub kinds : Kinds (net_in s t c ts) c.boxes p
  unfolding net_in
  kinds = record {
    inside = λ k l. (box_at s x k, box_proc s x (tokens_of s t c ts) k (omega (arith, l, n_boxes s t c h)));
    outside = not_box;
  }
