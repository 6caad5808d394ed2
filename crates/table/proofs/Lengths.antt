-- The lists that a table holds are as long as the counts say, and a field without fault has its place.
-- Assumes nothing.
use Prim.Native.Nat.{ℕ, ◌+◌, ◌-◌, ◌≤◌, ◌<◌}
use mathlib.Core.Path.{◌≡◌, refl}
use mathlib.Core.List.{List}
use native.Mathlib.Omega.{arith}
use lib.Dec.{eqb, leb, ltb}
use lib.ListN.{length, get_or}
use borrow.Author.Tests.{ltb-true, leb-true, eqb-true}
use Rattle.model.specs.Values.{in_precision}
use Rattle.model.specs.Expressions.{type_at}
use Rattle.model.specs.NetworkFile.{every, variable_start, box_form, box_limits, body_at, rule_in, shape_at}
use Rattle.model.specs.Rules.{rule_read}
use Rattle.model.proofs.Tests.{and₄, and₅}
use Rattle.model.proofs.Accepted.{Added, wire, box, rule, input, output, BoxField, wire_count, box_count, rule_count, output_count}
use Rattle.shapes.specs.Shapes.{BoxFits}
use Rattle.table.specs.declared.Counts.{Counts}
use Rattle.table.specs.Table.{index_in, Within, Room}
use Rattle.table.proofs.Regions.{region-length}

module _ (t : List ℕ) (c : Counts) (room : 656 ≤ length t) (w : Within c) where
  pub wires_n : length (index_in t c).wires ≡ c.wires
  unfolding index_in
  wires_n = region-length 0 c.wires t (omega arith)

  pub boxes_n : length (index_in t c).boxes ≡ c.boxes
  unfolding index_in
  boxes_n = region-length 64 c.boxes t (omega arith)

  pub inputs_n : length (index_in t c).inputs ≡ c.inputs
  unfolding index_in
  inputs_n = region-length 640 c.inputs t (omega arith)

  pub outputs_n : length (index_in t c).outputs ≡ c.outputs
  unfolding index_in
  outputs_n = region-length 648 c.outputs t (omega arith)

  pub last_n : (index_in t c).last ≡ c.last
  unfolding index_in
  last_n = refl

  inbox_n : (index_in t c).inbox ≡ c.inbox
  unfolding index_in
  inbox_n = refl

  -- where a field of tag k alone has something to show
  only : (k : ℕ) → 1 ≤ k → k ≤ 5 → (k ≡ 1 → c.wires < 64) → (k ≡ 2 → c.boxes < 32) → (k ≡ 3 → (c.inbox < 16) × (1 ≤ c.boxes)) → (k ≡ 4 → c.inputs < 8) → (k ≡ 5 → c.outputs < 8) → Room c k
  only k l m f₁ f₂ f₃ f₄ f₅ = record { wires = f₁; boxes = f₂; rules = λ z. (f₃ z).0; owned = λ z. (f₃ z).1; inputs = f₄; outputs = f₅; least = l; most = m }

  never : {A : Type 0} {k j : ℕ} → (k ≡ j → ⊥) → k ≡ j → A
  never f e = absurd (f e)

  pub roomy : (s b : List ℕ) {tag : ℕ} → Added s (index_in t c) b tag → Room c tag
  roomy s b (wire l p) = only 1 (omega arith) (omega arith) (λ z. omega (arith, wires_n, wire_count (length (index_in t c).wires) b p.limits)) (never (λ z. omega (arith, z))) (never (λ z. omega (arith, z))) (never (λ z. omega (arith, z))) (never (λ z. omega (arith, z)))
  roomy s b (box p) = only 2 (omega arith) (omega arith) (never (λ z. omega (arith, z))) (λ z. omega (arith, boxes_n, box_count (length (index_in t c).boxes) b p.limits)) (never (λ z. omega (arith, z))) (never (λ z. omega (arith, z))) (never (λ z. omega (arith, z)))
  roomy s b (rule l p) =
      only 3 (omega arith) (omega arith) (never (λ z. omega (arith, z))) (never (λ z. omega (arith, z)))
      (λ z. (omega (arith, inbox_n, rule_count (index_in t c).inbox b (rule_read (rule_in (shape_at s (index_in t c) (length (index_in t c).boxes - 1)) b)) p.limits), w.owned (omega (arith, l, last_n)))) (never (λ z. omega (arith, z))) (never (λ z. omega (arith, z)))
  roomy s b (input p) = only 4 (omega arith) (omega arith) (never (λ z. omega (arith, z))) (never (λ z. omega (arith, z))) (never (λ z. omega (arith, z))) (λ z. omega (arith, inputs_n, ltb-true (length (index_in t c).inputs) 8 p.limits)) (never (λ z. omega (arith, z)))
  roomy s b (output p) = only 5 (omega arith) (omega arith) (never (λ z. omega (arith, z))) (never (λ z. omega (arith, z))) (never (λ z. omega (arith, z))) (never (λ z. omega (arith, z))) (λ z. omega (arith, outputs_n, output_count (length (index_in t c).outputs) b p.limits))

-- the body of a box that passed has the length that its counts say, and these are 4 at most
pub box_fits : (s : List ℕ) (wires seen o : ℕ) → BoxField s wires seen o → BoxFits s o
unfolding box_form box_limits
box_fits s wires seen o p =
    let b = body_at s o in
    let form = and₄ (leb 3 (length b)) (eqb (length b) (variable_start b (get_or b 2 0))) (every (get_or b 0 0 + get_or b 1 0) (λ k. ltb (get_or b (3 + k) 0) wires)) (every (get_or b 2 0) (λ j. leb (get_or b (variable_start b j) 0) 4)) p.passes.form in
    let limits = and₅ (ltb seen 32) (leb (get_or b 0 0) 4) (leb (get_or b 1 0) 4) (leb (get_or b 2 0) 4) (every (get_or b 2 0) (λ j. in_precision (type_at b (variable_start b j)))) p.passes.limits in
    record {
      inside = p.in-file.whole;
      body = record {
        whole = eqb-true (length b) (variable_start b (get_or b 2 0)) form.1;
        ins = leb-true (get_or b 0 0) 4 limits.1;
        outs = leb-true (get_or b 1 0) 4 limits.2;
        vars = leb-true (get_or b 2 0) 4 limits.3;
      };
    }
