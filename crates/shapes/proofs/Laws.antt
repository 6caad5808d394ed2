-- Types laid out in bytes. Assumes nothing.
use Prim.Native.Nat.{ℕ, zero, suc, ◌+◌, ◌*◌, ◌≤◌, ◌<◌}
use mathlib.Core.Path.{◌≡◌, refl, sym, ap, subst, ◌∙◌}
use mathlib.Core.List.{List, [], ◌∷◌, map}
use native.Mathlib.Omega.{arith}
use lib.ListN.{length, get_or, take, drop, set, length-map, length-take, length-drop, length-set, get_or-eq_default}
use lib.Seq.{get_or-take, get_or-drop, get_or-set_same, get_or-set_other}
use borrow.Author.Count.{below_more}
use Rattle.model.specs.declared.Ty.{Ty}
use Rattle.model.specs.Bytes.{two_at, stretch}
use Rattle.model.specs.Values.{no_type}
use Rattle.model.specs.Expressions.{type_at}
use Rattle.model.specs.Rules.{Shape}
use Rattle.model.specs.Network.{Wire, Variable, no_wire, wire_types, variable_types, shape_of}
use Rattle.model.specs.NetworkFile.{tabulate, variable_start, variable_of, body_at, wire_of, box_of}
use Rattle.model.proofs.Decoded.{get_d_map_lt, length-tabulate}
use Rattle.shapes.specs.declared.Arity.{Arity}
use Rattle.shapes.specs.Shapes.{Lays, types_in, shape_in, wires_in, type_in, BodyFits, BoxFits}

module _ (s t : List ℕ) (wires w : ℕ) where
  pub type_none : wires ≤ w → record { kind = 255; p = 0 } ≡ type_in s t wires w
  unfolding type_in wires_in no_wire no_type
  type_none h =
      let l = length-map (take wires t) (wire_of s) in
      let g : length (map (wire_of s) (take wires t)) ≤ w = rw l (simp length-take (omega arith)) in
      ap (λ (v : Wire). v.ty) (sym (get_or-eq_default (map (wire_of s) (take wires t)) no_wire g))

  pub type_some : (o : ℕ) → o ≡ get_or t w 0 → w < wires → wires ≤ length t → type_at s (o + 3) ≡ type_in s t wires w
  unfolding type_in wires_in wire_of
  type_some o e h g =
      let l : w < length (take wires t) = simp length-take (omega arith) in
      ap (λ (k : ℕ). type_at s (k + 3)) (e ∙ sym (get_or-take wires t w 0 h)) ∙ ap (λ (v : Wire). v.ty) (sym (get_d_map_lt (wire_of s) (take wires t) w 0 no_wire l))

-- the elements of a tabulated list
pub tabulate-same : {A : Type 0} (n : ℕ) (f g : ℕ → A) → ((k : ℕ) → k < n → f k ≡ g k) → tabulate n f ≡ tabulate n g
unfolding tabulate
tabulate-same zero f g e = refl
tabulate-same (suc n) f g e = λ i. e 0 (omega arith) i ∷ tabulate-same n (λ k. f (suc k)) (λ k. g (suc k)) (λ k h. e (suc k) (omega arith)) i

-- a type written at 2 k, and those before it
module _ (t : List ℕ) (k a b : ℕ) (h : 2 * k + 1 < length t) where
  abbrev put : List ℕ
  put = set (set t (2 * k) a) (2 * k + 1) b

  below : (i : ℕ) → i < 2 * k → get_or put i 0 ≡ get_or t i 0
  below i g = get_or-set_other (set t (2 * k) a) (2 * k + 1) i b 0 (λ e. omega arith) ∙ get_or-set_other t (2 * k) i a 0 (λ e. omega arith)

  first : get_or put (2 * k) 0 ≡ a
  first = get_or-set_other (set t (2 * k) a) (2 * k + 1) (2 * k) b 0 (λ e. omega arith) ∙ get_or-set_same t (2 * k) a 0 (omega arith)

  second : get_or put (2 * k + 1) 0 ≡ b
  second = get_or-set_same (set t (2 * k) a) (2 * k + 1) b 0 (simp length-set (omega arith))

  pub pair_more : (P : ℕ → Ty → Type 0) → ((j : ℕ) → j < k → P j (type_at t (2 * j))) → P k (record { kind = a; p = b }) → (j : ℕ) → j < k + 1 → P j (type_at put (2 * j))
  unfolding type_at
  pair_more P before here =
      let new : record { kind = a; p = b } ≡ type_at put (2 * k) = sym (λ i. record { kind = first i; p = second i }) in
      below_more (λ j. P j (type_at put (2 * j))) k
      (λ j g. subst (P j) (sym (λ i. record { kind = below (2 * j) (omega arith) i; p = below (2 * j + 1) (omega arith) i })) (before j g))
      (subst (P k) new here)

-- the types of the wires of a stretch
pub wire_types_lem : (ws : List Wire) (ps : List ℕ) → wire_types ws ps ≡ tabulate (length ps) (λ k. (get_or ws (get_or ps k 0) no_wire).ty)
unfolding wire_types tabulate
wire_types_lem ws [] = refl
wire_types_lem ws (p ∷ ps) = ap (λ (l : List Ty). (get_or ws p no_wire).ty ∷ l) (wire_types_lem ws ps)

pub variable_types_lem : (n : ℕ) (f : ℕ → Variable) → variable_types (tabulate n f) ≡ tabulate n (λ k. (f k).ty)
unfolding variable_types tabulate
variable_types_lem zero f = refl
variable_types_lem (suc n) f = ap (λ (l : List Ty). (f 0).ty ∷ l) (variable_types_lem n (λ k. f (suc k)))

-- a stretch that lies in a list
pub length-stretch : (b : List ℕ) (at n : ℕ) → at + n ≤ length b → length (stretch b at n) ≡ n
unfolding stretch
length-stretch b at n h = simp (length-take, length-drop) (omega arith)

get_or-stretch : (b : List ℕ) (at n k : ℕ) → k < n → get_or (stretch b at n) k 0 ≡ get_or b (at + k) 0
unfolding stretch
get_or-stretch b at n k h = get_or-take n (drop at b) k 0 h ∙ get_or-drop at b k 0

-- the shape from its three parts
module _ (s t b : List ℕ) (wires : ℕ) where
  wires_are : (types : List ℕ) (at n : ℕ) → at + n ≤ length b → Lays types n (λ k. type_in s t wires (get_or b (at + k) 0)) → types_in types n ≡ wire_types (wires_in s t wires) (stretch b at n)
  unfolding types_in type_in
  wires_are types at n h l =
      let ps : List ℕ = stretch b at n in
      let of : ℕ → Ty = λ k. (get_or (wires_in s t wires) (get_or ps k 0) no_wire).ty in
      tabulate-same n (λ k. type_at types (2 * k)) of (λ k g. l.each k g ∙ ap (type_in s t wires) (sym (get_or-stretch b at n k g)))
      ∙ ap (λ (j : ℕ). tabulate j of) (sym (length-stretch b at n h))
      ∙ sym (wire_types_lem (wires_in s t wires) ps)

  module _ (i o v : ℕ) (e : i ≡ get_or b 0 0) (f : o ≡ get_or b 1 0) (g : v ≡ get_or b 2 0) where
    vars_are : (types : List ℕ) → Lays types v (λ k. type_at b (3 + i + o + 6 * k)) → types_in types v ≡ variable_types (tabulate (get_or b 2 0) (variable_of b))
    unfolding types_in variable_of variable_start
    vars_are types l =
        tabulate-same v (λ k. type_at types (2 * k)) (λ k. (variable_of b k).ty) (λ k h. l.each k h ∙ (λ j. type_at b (3 + e j + f j + 6 * k)))
        ∙ sym (variable_types_lem v (variable_of b))
        ∙ ap (λ (n : ℕ). variable_types (tabulate n (variable_of b))) g

    pub shape_is : (ins outs vars : List ℕ) → BodyFits b → Lays ins i (λ k. type_in s t wires (get_or b (3 + k) 0)) → Lays outs o (λ k. type_in s t wires (get_or b (3 + i + k) 0))
        → Lays vars v (λ k. type_at b (3 + i + o + 6 * k)) → shape_in ins outs vars (record { ins = i; outs = o; vars = v }) ≡ shape_of (wires_in s t wires) (box_of b)
    unfolding shape_in shape_of box_of variable_start
    shape_is ins outs vars fits li lo lv = λ j. record {
      ins = (wires_are ins 3 i (omega (arith, fits.whole)) li ∙ ap (λ (n : ℕ). wire_types (wires_in s t wires) (stretch b 3 n)) e) j;
      outs = (wires_are outs (3 + i) o (omega (arith, fits.whole)) lo ∙ (λ k. wire_types (wires_in s t wires) (stretch b (3 + e k) (f k)))) j;
      vars = vars_are vars lv j;
    }

-- the stretches of a box's ports lie in its body
module _ (b : List ℕ) (fits : BodyFits b) (i o : ℕ) (e : i ≡ get_or b 0 0) (f : o ≡ get_or b 1 0) where
  pub ins_inside : 3 + i ≤ length b
  unfolding variable_start
  ins_inside = omega (arith, fits.whole)

  pub outs_inside : 3 + i + o ≤ length b
  unfolding variable_start
  outs_inside = omega (arith, fits.whole)

-- the body of a box in the file
pub body_fits : (s b : List ℕ) (o len : ℕ) → BoxFits s o → len ≡ two_at s (o + 1) → b ≡ stretch s (o + 3) len → BodyFits b
unfolding body_at
body_fits s b o len fits e d = rw (d, e) fits.body

pub body_is : (s b : List ℕ) (o len : ℕ) → len ≡ two_at s (o + 1) → b ≡ stretch s (o + 3) len → b ≡ body_at s o
unfolding body_at
body_is s b o len e d = rw (← e) d

-- a shape's counts are those of its box, 4 at most
length_wires : (ws : List Wire) (ps : List ℕ) → length (wire_types ws ps) ≡ length ps
unfolding wire_types
length_wires ws [] = refl
length_wires ws (p ∷ ps) = ap suc (length_wires ws ps)

module _ (ins outs vars b : List ℕ) (a : Arity) (ws : List Wire) (e : shape_in ins outs vars a ≡ shape_of ws (box_of b)) (fits : BodyFits b) where
  few : (types : List ℕ) (n at m : ℕ) → types_in types n ≡ wire_types ws (stretch b at m) → m ≤ 4 → n ≤ 4
  unfolding types_in stretch
  few types n at m d h =
      let l = sym (length-tabulate n (λ k. type_at types (2 * k))) ∙ ap length d ∙ length_wires ws (stretch b at m) ∙ length-take m (drop at b) in
      omega arith

  pub ins_few : a.ins ≤ 4
  unfolding shape_in shape_of box_of
  ins_few = few ins a.ins 3 (get_or b 0 0) (ap (λ (sh : Shape). sh.ins) e) fits.ins

  pub outs_few : a.outs ≤ 4
  unfolding shape_in shape_of box_of
  outs_few = few outs a.outs (3 + get_or b 0 0) (get_or b 1 0) (ap (λ (sh : Shape). sh.outs) e) fits.outs

  pub vars_few : a.vars ≤ 4
  unfolding shape_in shape_of box_of types_in
  vars_few =
      let d = ap (λ (sh : Shape). length sh.vars) e in
      let l = length-tabulate a.vars (λ k. type_at vars (2 * k)) in
      let m = ap length (variable_types_lem (get_or b 2 0) (variable_of b)) ∙ length-tabulate (get_or b 2 0) (λ k. (variable_of b k).ty) in
      omega (arith, fits.vars)
