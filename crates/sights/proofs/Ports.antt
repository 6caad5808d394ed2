-- The wires of a box's ports, read from its body.
-- Assumes nothing.
use mathlib.Core.Path.{◌≡◌, refl, sym, ap, ◌∙◌}
use mathlib.Core.List.{List}
use Prim.Native.Nat.{ℕ, ◌+◌, ◌≤◌, ◌<◌}
use native.Mathlib.Omega.{arith}
use lib.ListN.{length, get_or, length-map}
use Rattle.model.specs.Bytes.{stretch}
use Rattle.model.specs.NetworkFile.{Index, variable_start, body_at, wire_of, box_of, box_at, wires_of}
use Rattle.model.proofs.Decoded.{GoodBox, box_good, stretch_at, length-stretch}
use Rattle.table.specs.declared.Counts.{Counts}
use Rattle.table.specs.Table.{index_in}
use Rattle.table.proofs.Lengths.{box_fits}
use Rattle.shapes.specs.Shapes.{BodyFits}
use Rattle.lookup.specs.Tabled.{Tabled}
use Rattle.lookup.proofs.Tabled.{valid, n_wires, n_boxes}

module _ (s t : List ℕ) (c : Counts) (h : Tabled s t c) (k : ℕ) (l : k < c.boxes) where
  abbrev x : Index
  x = index_in t c

  pub box_is : GoodBox (wires_of s x) (box_at s x k)
  box_is = box_good s x (valid s t c h) k (omega (arith, l, n_boxes s t c h))

  wires_are : length (wires_of s x) ≡ c.wires
  unfolding wires_of
  wires_are = length-map x.wires (wire_of s) ∙ n_wires s t c h

  abbrev body : List ℕ
  body = body_at s (get_or x.boxes k 0)

  ins_are : (box_at s x k).ins ≡ stretch body 3 (get_or body 0 0)
  unfolding box_at box_of
  ins_are = refl

  outs_are : (box_at s x k).outs ≡ stretch body (3 + get_or body 0 0) (get_or body 1 0)
  unfolding box_at box_of
  outs_are = refl

  body_fits : BodyFits body
  body_fits = (box_fits s (length x.wires) k (get_or x.boxes k 0) ((valid s t c h).boxes k (omega (arith, l, n_boxes s t c h)))).body

  -- as many inputs and outputs as the body's first two bytes say
  ins_long : length (box_at s x k).ins ≡ get_or body 0 0
  unfolding variable_start
  ins_long = ap length ins_are ∙ length-stretch body 3 (get_or body 0 0) (omega (arith, body_fits.whole))

  outs_long : length (box_at s x k).outs ≡ get_or body 1 0
  unfolding variable_start
  outs_long = ap length outs_are ∙ length-stretch body (3 + get_or body 0 0) (get_or body 1 0) (omega (arith, body_fits.whole))

  pub ins_count : (b : List ℕ) (a v : ℕ) → b ≡ body → v ≡ get_or b 0 0 → a ≡ v → (a ≡ length (box_at s x k).ins) × (a ≤ 4)
  ins_count b a v e p q = let g : a ≡ length (box_at s x k).ins = q ∙ p ∙ ap (λ (y : List ℕ). get_or y 0 0) e ∙ sym ins_long in (g, omega (arith, g, box_is.few_ins))

  pub outs_count : (b : List ℕ) (a v : ℕ) → b ≡ body → v ≡ get_or b 1 0 → a ≡ v → (a ≡ length (box_at s x k).outs) × (a ≤ 4)
  outs_count b a v e p q = let g : a ≡ length (box_at s x k).outs = q ∙ p ∙ ap (λ (y : List ℕ). get_or y 1 0) e ∙ sym outs_long in (g, omega (arith, g, box_is.few_outs))

  pub in-wire-is : (b : List ℕ) (j v : ℕ) → b ≡ body → j < length (box_at s x k).ins → v ≡ get_or b (3 + j) 0 → (v ≡ get_or (box_at s x k).ins j 0) × (v < c.wires)
  in-wire-is b j v e m q =
      let i : j < get_or body 0 0 = omega (arith, m, ins_long) in
      let f : v ≡ get_or (box_at s x k).ins j 0 = q ∙ ap (λ (y : List ℕ). get_or y (3 + j) 0) e ∙ sym (ap (λ (y : List ℕ). get_or y j 0) ins_are ∙ stretch_at body 3 (get_or body 0 0) j i) in
      (f, omega (arith, f, wires_are, box_is.ins j m))

  pub out_wire_is : (b : List ℕ) (i j v : ℕ) → b ≡ body → i ≡ get_or b 0 0 → j < length (box_at s x k).outs → v ≡ get_or b (3 + i + j) 0 → (v ≡ get_or (box_at s x k).outs j 0) × (v < c.wires)
  out_wire_is b i j v e g m q =
      let n : ℕ = get_or body 0 0 in
      let o : j < get_or body 1 0 = omega (arith, m, outs_long) in
      let u : i ≡ n = g ∙ ap (λ (y : List ℕ). get_or y 0 0) e in
      let f : v ≡ get_or (box_at s x k).outs j 0 =
      q ∙ ap (λ (y : List ℕ). get_or y (3 + i + j) 0) e ∙ ap (λ (y : ℕ). get_or body (3 + y + j) 0) u ∙ sym (ap (λ (y : List ℕ). get_or y j 0) outs_are ∙ stretch_at body (3 + n) (get_or body 1 0) j o) in
      (f, omega (arith, f, wires_are, box_is.outs j m))
