-- What is read where the table says, from the number that an id widens to: a law an accessor.
-- Assumes nothing.
use mathlib.Core.Path.{◌≡◌, sym, ap, ap₂, ◌∙◌, subst}
use mathlib.Core.Bool.{cond}
use mathlib.Core.List.{List, []}
use Prim.Native.Nat.{ℕ, ◌+◌, ◌-◌, ◌≤◌, ◌<◌}
use native.Mathlib.Omega.{arith}
use lib.Dec.{ltb}
use lib.ListN.{length, get_or}
use Rattle.model.specs.Bytes.{two_at, stretch}
use Rattle.model.specs.Expressions.{type_at}
use Rattle.model.specs.Network.{Wire, Net, output, wire, proc}
use Rattle.model.specs.NetworkFile.{Index, wire_of, body_at, box_at, rule_at, net_of}
use Rattle.model.proofs.Accepted.{InFile}
use Rattle.model.proofs.Decoded.{GoodType}
use Rattle.table.specs.declared.Counts.{Counts}
use Rattle.table.specs.Table.{index_in}
use Rattle.lookup.specs.Ends.{wire_at, room_at}
use Rattle.lookup.specs.Tabled.{Tabled}
use Rattle.lookup.proofs.Tabled.{wire_is, wire_fine, box_entry, rules_in, rule_entry, input_entry, input_known, output_entry, output_known}

pub in-file : (s : List ℕ) (a b : ℕ) → a ≡ b → InFile s b → InFile s a
in-file s a b e h = subst (InFile s) (sym e) h

pub body_is : (s l : List ℕ) (a o : ℕ) → a ≡ o → l ≡ stretch s (a + 3) (two_at s (a + 1)) → l ≡ body_at s o
unfolding body_at
body_is s l a o e h = h ∙ ap (λ (i : ℕ). stretch s (i + 3) (two_at s (i + 1))) e

module _ (s t : List ℕ) (c : Counts) (h : Tabled s t c) where
  abbrev x : Index
  x = index_in t c

  abbrev n : Net
  n = net_of s x []

  module _ (k w e : ℕ) (l : k < c.wires) (p : w ≡ k) (q : e ≡ get_or t w 0) where
    at_wire : wire_of s e ≡ wire n k
    at_wire = ap (wire_of s) (q ∙ ap (λ (i : ℕ). get_or t i 0) p) ∙ sym (wire_is s t c h k l)

    pub type_read : (a b : ℕ) → a ≡ get_or s (e + 3) 0 → b ≡ get_or s (e + 4) 0 → (record { kind = a; p = b } ≡ (wire n k).ty) × GoodType (record { kind = a; p = b })
    unfolding wire_of type_at
    type_read a b f g =
        let y : b ≡ get_or s (e + 3 + 1) 0 = g ∙ ap (λ (i : ℕ). get_or s i 0) (omega arith) in
        let z : record { kind = a; p = b } ≡ (wire n k).ty = (λ i. record { kind = f i; p = y i }) ∙ ap (λ (v : Wire). v.ty) at_wire in
        (z, subst GoodType (sym z) (wire_fine s t c h k l).ty)

    pub capacity_read : (a b : ℕ) → a ≡ get_or s (e + 5) 0 → b ≡ a → b ≡ (wire n k).capacity
    unfolding wire_of
    capacity_read a b f g = g ∙ f ∙ ap (λ (v : Wire). v.capacity) at_wire

  pub box_read : (k w e : ℕ) → k < c.boxes → w ≡ k → e ≡ get_or t (64 + w) 0 → e ≡ get_or x.boxes k 0
  box_read k w e l p q = q ∙ ap (λ (i : ℕ). get_or t (64 + i) 0) p ∙ sym (box_entry s t c h k l)

  pub rules_read : (k w f e : ℕ) → k < c.boxes → w ≡ k → f ≡ get_or t (96 + w) 0 → e ≡ cond (ltb (w + 1) c.boxes) (get_or t (97 + w) 0) c.rules → e - f ≡ length (box_at s x k).rules
  rules_read k w f e l p q y = ap₂ (λ (i j : ℕ). i - j) y q ∙ ap (λ (i : ℕ). cond (ltb (i + 1) c.boxes) (get_or t (97 + i) 0) c.rules - get_or t (96 + i) 0) p ∙ sym (rules_in s t c h k l)

  pub rule_read_lem : (k r u f w e : ℕ) → k < c.boxes → r < length (box_at s x k).rules → u ≡ k → f ≡ get_or t (96 + u) 0 → w ≡ r → e ≡ get_or t (128 + (f + w)) 0 → e ≡ rule_at x k r
  rule_read_lem k r u f w e l m p q y z = z ∙ ap₂ (λ (i j : ℕ). get_or t (128 + (i + j)) 0) (q ∙ ap (λ (i : ℕ). get_or t (96 + i) 0) p) y ∙ sym (rule_entry s t c h k r l m)

  pub input_read : (k w e a : ℕ) → c.boxes ≤ k → k < c.boxes + c.inputs → w ≡ k → e ≡ get_or t (640 + (w - c.boxes)) 0 → a ≡ get_or s (e + 3) 0 → (a ≡ wire_at (proc n k)) × (a < c.wires)
  input_read k w e a from to p q f =
      let g : a ≡ wire_at (proc n k) = f ∙ ap (λ (i : ℕ). get_or s (i + 3) 0) (q ∙ ap (λ (i : ℕ). get_or t (640 + (i - c.boxes)) 0) p) ∙ sym (input_entry s t c h k from to) in
      (g, omega (arith, g, input_known s t c h k from to))

  module _ (k : ℕ) (from : c.boxes + c.inputs ≤ k) (to : k < c.boxes + c.inputs + c.outputs) where
    pub output_read : (w e : ℕ) → w ≡ k → e ≡ get_or t (648 + (w - (c.boxes + c.inputs))) 0 → proc n k ≡ output (get_or s (e + 3) 0) (two_at s (e + 4))
    output_read w e p q = output_entry s t c h k from to ∙ ap (λ (o : ℕ). output (get_or s (o + 3) 0) (two_at s (o + 4))) (sym (q ∙ ap (λ (i : ℕ). get_or t (648 + (i - (c.boxes + c.inputs))) 0) p))

    module _ (o : ℕ) (e : proc n k ≡ output (get_or s (o + 3) 0) (two_at s (o + 4))) where
      pub wire_read : (a : ℕ) → a ≡ get_or s (o + 3) 0 → (a ≡ wire_at (proc n k)) × (a < c.wires)
      unfolding wire_at
      wire_read a f = let g : a ≡ wire_at (proc n k) = f ∙ sym (ap wire_at e) in (g, omega (arith, g, output_known s t c h k from to))

      pub room_read : (a : ℕ) → a ≡ two_at s (o + 4) → a ≡ room_at (proc n k)
      unfolding room_at
      room_read a f = f ∙ sym (ap room_at e)
