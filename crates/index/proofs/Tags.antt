-- What is wrong with a field after those in a table, by its tag. Assumes nothing.
use Prim.Native.Nat.{ℕ, ◌≤◌, ◌<◌}
use mathlib.Core.Path.{◌≡◌, ap, ◌∙◌, sym}
use mathlib.Core.Bool.{true}
use mathlib.Core.List.{List}
use lib.Dec.{ltb}
use lib.ListN.{length}
use Rattle.model.specs.NetworkFile.{fault_of, wire_form, wire_limits, wire_type_fits, box_form, box_limits, box_types, input_form, output_form, output_limits, field_fault}
use Rattle.table.specs.declared.Counts.{Counts}
use Rattle.table.specs.Table.{index_in, Within, Noted}
use Rattle.model.proofs.Accepted.{Valid, valid_kept}
use Rattle.model.specs.declared.Field.{Field}
use Rattle.index.specs.Verdicts.{Sound}
use Rattle.table.proofs.Fields.{late_1, late_2, late_3, late_4, unknown, case_1, case_2, case_4, case_5}
use Rattle.table.proofs.Lengths.{wires_n, boxes_n, inputs_n, outputs_n}

module _ (s t : List ℕ) (c : Counts) (tag : ℕ) (b : List ℕ) where
  abbrev Is : ℕ → Type 0
  Is r = r ≡ field_fault s (index_in t c) tag b

  pub wire_late : tag ≡ 1 → 1 < c.last → Is 1
  unfolding index_in
  wire_late e h = sym (late_1 s (index_in t c) tag b e h)

  pub box_late : tag ≡ 2 → 2 < c.last → Is 1
  unfolding index_in
  box_late e h = sym (late_2 s (index_in t c) tag b e h)

  pub rule_late : tag ≡ 3 → (c.last ≡ 2 → ⊥) → Is 1
  unfolding index_in
  rule_late e h = sym (late_3 s (index_in t c) tag b e h)

  pub input_late : tag ≡ 4 → 4 < c.last → Is 1
  unfolding index_in
  input_late e h = sym (late_4 s (index_in t c) tag b e h)

  pub no_tag : (tag ≡ 1 → ⊥) → (tag ≡ 2 → ⊥) → (tag ≡ 3 → ⊥) → (tag ≡ 4 → ⊥) → (tag ≡ 5 → ⊥) → Is 1
  no_tag h1 h2 h3 h4 h5 = sym (unknown s (index_in t c) tag b h1 h2 h3 h4 h5)

  pub rule_of_lem : (r : ℕ) → tag ≡ 3 → r ≡ field_fault s (index_in t c) 3 b → Is r
  rule_of_lem r e d = rw e d

  module _ (room : 656 ≤ length t) (w : Within c) (r : ℕ) where
    pub wire_of_lem : tag ≡ 1 → c.last ≤ 1 → r ≡ fault_of (wire_form b) (wire_limits c.wires b) (wire_type_fits b) → Is r
    unfolding index_in
    wire_of_lem e h d = d ∙ ap (λ (n : ℕ). fault_of (wire_form b) (wire_limits n b) (wire_type_fits b)) (sym (wires_n t c room w)) ∙ sym (case_1 s (index_in t c) tag b e h)

    pub box_of_lem : tag ≡ 2 → c.last ≤ 2 → r ≡ fault_of (box_form c.wires b) (box_limits c.boxes b) (box_types b) → Is r
    unfolding index_in
    box_of_lem e h d = d ∙ (λ i. fault_of (box_form (sym (wires_n t c room w) i) b) (box_limits (sym (boxes_n t c room w) i) b) (box_types b)) ∙ sym (case_2 s (index_in t c) tag b e h)

    pub input_of : tag ≡ 4 → c.last ≤ 4 → r ≡ fault_of (input_form c.wires b) (ltb c.inputs 8) true → Is r
    unfolding index_in
    input_of e h d = d ∙ (λ i. fault_of (input_form (sym (wires_n t c room w) i) b) (ltb (sym (inputs_n t c room w) i) 8) true) ∙ sym (case_4 s (index_in t c) tag b e h)

    pub output_of : tag ≡ 5 → r ≡ fault_of (output_form c.wires b) (output_limits c.outputs b) true → Is r
    unfolding index_in
    output_of e d = d ∙ (λ i. fault_of (output_form (sym (wires_n t c room w) i) b) (output_limits (sym (outputs_n t c room w) i) b) true) ∙ sym (case_5 s (index_in t c) tag b e)

-- a sound field that was noted keeps what holds
pub still_sound : (s t t' : List ℕ) (c r : Counts) (at : ℕ) (f : Field) → Valid s (index_in t c) → Sound s (index_in t c) at f → Noted t c f.tag at t' r → Valid s (index_in t' r)
still_sound s t t' c r at f S e n = rw n.index (valid_kept s (index_in t c) f at S e.there e.right)
