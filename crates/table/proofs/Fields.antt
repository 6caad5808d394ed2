-- What is wrong with a field after those of an index, by its tag. Assumes nothing.
use Prim.Native.Nat.{ℕ, ◌-◌, ◌≤◌, ◌<◌}
use mathlib.Core.Path.{◌≡◌}
use mathlib.Core.Bool.{true}
use mathlib.Core.List.{List}
use lib.Dec.{ltb}
use lib.ListN.{length}
use borrow.Author.Tests.{le-leb, lt-leb, eq-eqb, ne_eqb}
use Rattle.model.specs.Rules.{Shape, rule_read}
use Rattle.model.specs.NetworkFile.{Index, fault_of, wire_form, wire_limits, wire_type_fits, box_form, box_limits, box_types, rule_in, rule_form, rule_limits, rule_types, input_form, output_form, output_limits, shape_at, in_order, field_fault}

-- the faults of a field of each kind after those of an index
abbrev pub wire_fault : Index → List ℕ → ℕ
wire_fault x b = fault_of (wire_form b) (wire_limits (length x.wires) b) (wire_type_fits b)

abbrev pub box_fault : Index → List ℕ → ℕ
box_fault x b = fault_of (box_form (length x.wires) b) (box_limits (length x.boxes) b) (box_types b)

abbrev pub input_fault : Index → List ℕ → ℕ
input_fault x b = fault_of (input_form (length x.wires) b) (ltb (length x.inputs) 8) true

abbrev pub output_fault : Index → List ℕ → ℕ
output_fault x b = fault_of (output_form (length x.wires) b) (output_limits (length x.outputs) b) true

abbrev pub rule_fault : Shape → ℕ → List ℕ → ℕ
rule_fault sh seen b = fault_of (rule_form sh b) (rule_limits seen b (rule_read (rule_in sh b))) (rule_types sh (rule_read (rule_in sh b)))

module _ (s : List ℕ) (x : Index) (tag : ℕ) (b : List ℕ) where
  pub late_1 : tag ≡ 1 → 1 < x.last → field_fault s x tag b ≡ 1
  unfolding field_fault in_order
  late_1 e h = rw e (simp (lt-leb x.last 1 h))

  pub late_2 : tag ≡ 2 → 2 < x.last → field_fault s x tag b ≡ 1
  unfolding field_fault in_order
  late_2 e h = rw e (simp (lt-leb x.last 2 h))

  pub late_3 : tag ≡ 3 → (x.last ≡ 2 → ⊥) → field_fault s x tag b ≡ 1
  unfolding field_fault in_order
  late_3 e h = rw e (simp (ne_eqb x.last 2 h))

  pub late_4 : tag ≡ 4 → 4 < x.last → field_fault s x tag b ≡ 1
  unfolding field_fault in_order
  late_4 e h = rw e (simp (lt-leb x.last 4 h))

  pub unknown : (tag ≡ 1 → ⊥) → (tag ≡ 2 → ⊥) → (tag ≡ 3 → ⊥) → (tag ≡ 4 → ⊥) → (tag ≡ 5 → ⊥) → field_fault s x tag b ≡ 1
  unfolding field_fault in_order
  unknown h1 h2 h3 h4 h5 = simp (ne_eqb tag 1 h1, ne_eqb tag 2 h2, ne_eqb tag 3 h3, ne_eqb tag 4 h4, ne_eqb tag 5 h5)

  pub case_1 : tag ≡ 1 → x.last ≤ 1 → field_fault s x tag b ≡ wire_fault x b
  unfolding field_fault in_order
  case_1 e h = rw e (simp (le-leb x.last 1 h))

  pub case_2 : tag ≡ 2 → x.last ≤ 2 → field_fault s x tag b ≡ box_fault x b
  unfolding field_fault in_order
  case_2 e h = rw e (simp (le-leb x.last 2 h))

  pub case_3 : tag ≡ 3 → x.last ≡ 2 → field_fault s x tag b ≡ rule_fault (shape_at s x (length x.boxes - 1)) x.inbox b
  unfolding field_fault in_order
  case_3 e h = rw e (simp (eq-eqb x.last 2 h))

  pub case_4 : tag ≡ 4 → x.last ≤ 4 → field_fault s x tag b ≡ input_fault x b
  unfolding field_fault in_order
  case_4 e h = rw e (simp (le-leb x.last 4 h))

  pub case_5 : tag ≡ 5 → field_fault s x tag b ≡ output_fault x b
  unfolding field_fault in_order
  case_5 e = rw e
