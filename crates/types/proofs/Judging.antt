-- The type of an expression from the types of its operands, where they stand in the bytes.
-- Assumes nothing.
use mathlib.Core.Path.{◌≡◌, refl, sym, ap, ◌∙◌}
use mathlib.Core.Bool.{Bool, true, false, cond, ◌&&◌}
use mathlib.Core.List.{List, [], ◌∷◌, ◌++◌}
use Prim.Native.Nat.{ℕ, suc, ◌+◌, ◌-◌, ◌≤◌}
use native.Mathlib.Omega.{arith}
use lib.Dec.{eqb}
use lib.ListN.{get_or, drop, length, length-append}
use lib.Seq.{get_or-drop}
use borrow.Author.Tests.{lt-leb, eqb-true, eqb-false, ne_eqb}
use Rattle.std.specs.Prelude.{Ok, Err}
use Rattle.std.specs.Bool.{then_some}
use Rattle.model.specs.declared.Ty.{Ty}
use Rattle.model.specs.Values.{is_bool, is_number, same_type}
use Rattle.model.specs.Expressions.{Exp, Read, got, head_size, operands, type_at, build, Scope, Typed, typed, ill, judged, operand_at, one_type, two_type, type_of, size_of}
use Rattle.expressions.proofs.Depths.{four_up}
use Rattle.expressions.proofs.Shapes.{one_operand, two_operands, three_operands, at_most_three, build-cast, build_one, build_two, build-if}
use Rattle.expressions.proofs.Parts.{sizes}
use Rattle.expressions.proofs.Turns.{Call, there}
use Rattle.types.specs.declared.Typed.{Typed as TypedTo}
use Rattle.types.specs.Scopes.{given, by_rule, placed, typed_at}

-- ── answers ──────────────────────────────────────────────────────────────────────────────────

pub given_judged : (b : Bool) (t : Ty) → given (judged b t) ≡ then_some b t
unfolding given judged
given_judged true t = refl
given_judged false t = refl

-- a rule that holds if p does, judged by b
pub given_by : {b p : Bool} (t : Ty) {y : Typed} → y ≡ judged p t → b ≡ p → then_some b t ≡ given y
given_by {b} {p} t e q = ap (λ (c : Bool). then_some c t) q ∙ sym (ap given e ∙ given_judged p t)

-- what a rule judges: a type, if it holds, and else a fault where the expression stands
abbrev pub Judges : Typed → Type 0
Judges y = (b : Bool) × (t : Ty) × (y ≡ judged b t)

pub judges_if : (q : Bool) {x y : Typed} → Judges x → Judges y → Judges (cond q x y)
judges_if true v w = v
judges_if false v w = w

-- the answer by the type that a rule gives, with the offset after the operands
pub placed_by : {y : Typed} (at next : ℕ) → at ≤ next → Judges y → by_rule at next (given y) ≡ placed at (next - at) y
unfolding by_rule given placed judged
placed_by at next l w = rw w.2 (go w.0 w.1)
  where
    go : (b : Bool) (t : Ty) → by_rule at next (given (judged b t)) ≡ placed at (next - at) (judged b t)
    go true t = let q : next ≡ at + (next - at) = omega arith in ap (λ (n : ℕ). Ok (record { ty = t; next = n })) q
    go false t = let q : at ≡ at + 0 = omega arith in ap Err q

placed_typed : {t : TypedTo} (at n : ℕ) (x : Typed) → placed at n x ≡ Ok t → (x ≡ typed t.ty) × (at + n ≡ t.next)
unfolding placed
placed_typed at n (typed u) e = (cc, cc)
placed_typed at n (ill k) e = (cc, cc)

-- what an answer at an offset says of the expression there
pub typed_there : {t : TypedTo} (sc : Scope) (at : ℕ) (r : Read Exp) {e : Exp} {n : ℕ} → r ≡ got e n → typed_at sc at r ≡ Ok t → (type_of sc e ≡ typed t.ty) × (at + n ≡ t.next)
unfolding typed_at
typed_there sc at r {e} {n} x y = placed_typed at n (type_of sc e) (rw x at y)

-- ── operators ────────────────────────────────────────────────────────────────────────────────

head_one : (c : ℕ) → 4 ≤ c → head_size c ≡ 1
unfolding head_size
head_one c l = rw (ne_eqb c 0 (λ i. omega arith), lt-leb c 2 (omega arith), ne_eqb c 3 (λ i. omega arith))

head_cast : head_size 3 ≡ 3
unfolding head_size
head_cast = refl

-- the expressions have these types
pub data Typeds (sc : Scope) : List Exp → List Ty → Type 0 where
  none : Typeds sc [] []
  more : {e : Exp} {es : List Exp} {t : Ty} {ts : List Ty} → type_of sc e ≡ typed t → Typeds sc es ts → Typeds sc (e ∷ es) (t ∷ ts)

pub typeds_end : {sc : Scope} {es : List Exp} {ts : List Ty} {t : Ty} → Typeds sc es ts → (e : Exp) → type_of sc e ≡ typed t → Typeds sc (es ++ (e ∷ [])) (ts ++ (t ∷ []))
typeds_end none e x = more x none
typeds_end (more y r) e x = more y (typeds_end r e x)

pub typeds_length : {sc : Scope} {es : List Exp} {ts : List Ty} → Typeds sc es ts → length es ≡ length ts
typeds_length none = refl
typeds_length (more x r) = ap suc (typeds_length r)

pub typeds_at : {sc : Scope} {ts : List Ty} (es : List Exp) (e : Exp) (rest : List Exp) → Typeds sc (es ++ (e ∷ rest)) ts → (t : Ty) × (type_of sc e ≡ typed t)
typeds_at [] e rest (more {t = t} x r) = (t, x)
typeds_at (f ∷ es) e rest (more x r) = typeds_at es e rest r

-- an operand has a type, and what is made of it
pub operand_typed : (at : ℕ) (x : Typed) (f : Ty → Typed) {u : Ty} → operand_at at x f ≡ typed u → (t : Ty) × ((x ≡ typed t) × (f t ≡ typed u))
unfolding operand_at
operand_typed at (typed t) f e = (t, (refl, e))
operand_typed at (ill k) f e = absurd cc

-- a cast is of numbers; otherwise not or lnot
abbrev pub one_rule : ℕ → Ty → Ty → Typed
one_rule c named t = cond (eqb c 3) (judged (is_number named && is_number t) named) (one_type c t)

-- by the operator at a call
module _ (sc : Scope) (call : Call) where
  abbrev u : List ℕ
  u = drop call.at call.s

  abbrev c : ℕ
  c = call.c

  abbrev h : get_or u 0 0 ≡ c
  h = there call

  one_by : (b : Bool) (e : Exp) {t : Ty} → eqb c 3 ≡ b → 3 ≤ c → c ≤ 5 → type_of sc e ≡ typed t → type_of sc (build u (e ∷ [])) ≡ one_rule c (type_at u 1) t
  unfolding type_of operand_at
  one_by true e b l m x = rw (build-cast u c h e (eqb-true c 3 b), x, b)
  one_by false e b l m x = rw (build_one u c h e (four_up c l (eqb-false c 3 b)) m, x, b)

  pub type_one : {es : List Exp} {t : Ty} → call.k ≡ 1 → Typeds sc es (t ∷ []) → type_of sc (build u es) ≡ one_rule c (type_at u 1) t
  type_one o (more {e = e} x none) = let r = one_operand c (sym call.count ∙ o) in one_by (eqb c 3) e refl r.0 r.1 x

  pub type_two : {es : List Exp} {t v : Ty} → call.k ≡ 2 → Typeds sc es (t ∷ v ∷ []) → type_of sc (build u es) ≡ two_type c t v
  unfolding type_of operand_at
  type_two o (more {e = e} x (more {e = f} y none)) = let r = two_operands c (sym call.count ∙ o) in rw (build_two u c h e f r.0 r.1, x, y)

  pub type_if : {es : List Exp} {b t v : Ty} → call.k ≡ 3 → Typeds sc es (b ∷ t ∷ v ∷ []) → type_of sc (build u es) ≡ judged (is_bool b && same_type t v) t
  unfolding type_of operand_at
  type_if o (more {e = e} x (more {e = f} y (more {e = g} z none))) = rw (build-if u c h e f g (three_operands c (sym call.count ∙ o)), x, y, z)

  -- the first operand fails
  cast-ill : (b : Bool) (e : Exp) {k : ℕ} → eqb c 3 ≡ b → 3 ≤ c → c ≤ 5 → type_of sc e ≡ ill k → type_of sc (build u (e ∷ [])) ≡ ill (head_size c + k)
  unfolding type_of operand_at
  cast-ill true e b l m x = rw (build-cast u c h e (eqb-true c 3 b), x, eqb-true c 3 b, head_cast)
  cast-ill false e b l m x = let q = four_up c l (eqb-false c 3 b) in rw (build_one u c h e q m, x, head_one c q)

  first_ill : (e : Exp) {k : ℕ} (rest : List Exp) → suc (length rest) ≡ operands c → type_of sc e ≡ ill k → type_of sc (build u (e ∷ rest)) ≡ ill (head_size c + k)
  unfolding type_of operand_at
  first_ill e [] o x = let r = one_operand c (sym o) in cast-ill (eqb c 3) e refl r.0 r.1 x
  first_ill e (f ∷ []) o x = let r = two_operands c (sym o) in rw (build_two u c h e f r.0 r.1, x, head_one c (omega arith))
  first_ill e (f ∷ g ∷ []) o x = let r = three_operands c (sym o) in rw (build-if u c h e f g r, x, head_one c (omega arith))
  first_ill e (f ∷ g ∷ i ∷ rest) o x = absurd (omega (arith, at_most_three c))

  second_ill : (e f : Exp) {t : Ty} {k : ℕ} (rest : List Exp) → suc (suc (length rest)) ≡ operands c → type_of sc e ≡ typed t → type_of sc f ≡ ill k → type_of sc (build u (e ∷ f ∷ rest)) ≡ ill (head_size c + size_of e + k)
  unfolding type_of operand_at
  second_ill e f [] o x y = let r = two_operands c (sym o) in rw (build_two u c h e f r.0 r.1, x, y, head_one c (omega arith))
  second_ill e f (g ∷ []) o x y = let r = three_operands c (sym o) in rw (build-if u c h e f g r, x, y, head_one c (omega arith))
  second_ill e f (g ∷ i ∷ rest) o x y = absurd (omega (arith, at_most_three c))

  third_ill : (e f g : Exp) {t v : Ty} {k : ℕ} → operands c ≡ 3 → type_of sc e ≡ typed t → type_of sc f ≡ typed v → type_of sc g ≡ ill k → type_of sc (build u (e ∷ f ∷ g ∷ [])) ≡ ill (head_size c + size_of e + size_of f + k)
  unfolding type_of operand_at
  third_ill e f g o x y z = let r = three_operands c o in rw (build-if u c h e f g r, x, y, z, head_one c (omega arith))

  -- the next operand fails
  pub next-ill :
      {done : List Exp} {ts : List Ty} → Typeds sc done ts → (e : Exp) (rest : List Exp) {k : ℕ} →
      length (done ++ (e ∷ rest)) ≡ operands c → type_of sc e ≡ ill k → type_of sc (build u (done ++ (e ∷ rest))) ≡ ill (head_size c + sizes done + k)
  unfolding sizes
  next-ill none e rest {k} o x =
      let q : head_size c + 0 + k ≡ head_size c + k = omega arith in
      rw q (first_ill e rest o x)
  next-ill (more {e = a} y none) e rest {k} o x =
      let q : head_size c + (size_of a + 0) + k ≡ head_size c + size_of a + k = omega arith in
      rw q (second_ill a e rest o y x)
  next-ill (more {e = a} y (more {e = b} z none)) e [] {k} o x =
      let q : head_size c + (size_of a + (size_of b + 0)) + k ≡ head_size c + size_of a + size_of b + k = omega arith in
      rw q (third_ill a b e (sym o) y z x)
  next-ill (more y (more z none)) e (f ∷ rest) o x = absurd (omega (arith, at_most_three c))
  next-ill (more y (more z (more {es = es} w r))) e rest o x = absurd (omega (arith, at_most_three c, length-append es (e ∷ rest)))

  -- what has a type has operands that have types
  one_built : (b : Bool) (e : Exp) {t : Ty} → eqb c 3 ≡ b → 3 ≤ c → c ≤ 5 → type_of sc (build u (e ∷ [])) ≡ typed t → (ts : List Ty) × Typeds sc (e ∷ []) ts
  unfolding type_of
  one_built true e b l m y =
      let r = operand_typed 3 (type_of sc e) _ (rw (build-cast u c h e (eqb-true c 3 b)) at y) in
      (r.0 ∷ [], more r.1.0 none)
  one_built false e b l m y =
      let r = operand_typed 1 (type_of sc e) _ (rw (build_one u c h e (four_up c l (eqb-false c 3 b)) m) at y) in
      (r.0 ∷ [], more r.1.0 none)

  pub typed_built : (es : List Exp) {t : Ty} → length es ≡ operands c → type_of sc (build u es) ≡ typed t → (ts : List Ty) × Typeds sc es ts
  unfolding type_of
  typed_built [] o y = ([], none)
  typed_built (e ∷ []) o y = let r = one_operand c (sym o) in one_built (eqb c 3) e refl r.0 r.1 y
  typed_built (e ∷ f ∷ []) o y =
      let b = two_operands c (sym o) in
      let r = operand_typed 1 (type_of sc e) _ (rw (build_two u c h e f b.0 b.1) at y) in
      let q = operand_typed _ (type_of sc f) _ r.1.1 in
      (r.0 ∷ q.0 ∷ [], more r.1.0 (more q.1.0 none))
  typed_built (e ∷ f ∷ g ∷ []) o y =
      let r = operand_typed 1 (type_of sc e) _ (rw (build-if u c h e f g (three_operands c (sym o))) at y) in
      let q = operand_typed _ (type_of sc f) _ r.1.1 in
      let p = operand_typed _ (type_of sc g) _ q.1.1 in
      (r.0 ∷ q.0 ∷ p.0 ∷ [], more r.1.0 (more q.1.0 (more p.1.0 none)))
  typed_built (e ∷ f ∷ g ∷ i ∷ es) o y = absurd (omega (arith, at_most_three c))

-- ── at an offset ─────────────────────────────────────────────────────────────────────────────

pub type_drop : (at : ℕ) (s : List ℕ) (k : ℕ) → type_at (drop at s) k ≡ type_at s (at + k)
unfolding type_at
type_drop at s k =
    let q : at + (k + 1) ≡ at + k + 1 = omega arith in
    rw (get_or-drop at s k 0, get_or-drop at s (k + 1) 0, q)
