-- The ways out of the type check of an expression at an offset, by what its operands gave.
-- Assumes nothing.
use mathlib.Core.Path.{◌≡◌, refl, sym, ap, ◌∙◌, subst}
use mathlib.Core.Bool.{true, ◌&&◌}
use mathlib.Core.List.{List, [], ◌∷◌, ◌++◌, append_assoc}
use Prim.Native.Nat.{ℕ, ◌+◌, ◌-◌, ◌≤◌, ◌<◌}
use native.Mathlib.Omega.{arith}
use lib.Dec.{eqb, leb}
use lib.ListN.{drop, length}
use Rattle.std.specs.Prelude.{Result, Ok, Err}
use Rattle.model.specs.declared.Ty.{Ty}
use Rattle.model.specs.Values.{is_bool, same_type}
use Rattle.model.specs.Expressions.{Exp, Read, got, head_size, operands, type_at, build, expression, Scope, Typed, typed, ill, judged, one_type, two_type, type_of}
use Rattle.expressions.specs.Reading.{fits_at}
use Rattle.expressions.proofs.Parts.{sizes, sizes_append, size_is}
use Rattle.expressions.proofs.Turns.{Call, deep, all, count_all, Reached, begin, next, counted, last}
use Rattle.types.specs.declared.Typed.{Typed as TypedTo}
use Rattle.types.specs.Scopes.{given, by_rule, placed, typed_at}
use Rattle.types.proofs.Judging.{Judges, judges_if, placed_by, typed_there, Typeds, none, typeds_end, typeds_length, one_rule, type_one, type_two, type_if, next-ill, type_drop}

-- an answer that is a fault: where
ill_there : (m : ℕ) (sc : Scope) (at : ℕ) (r : Read Exp) {e : Exp} {n : ℕ} → r ≡ got e n → typed_at sc at r ≡ Err m → (k : ℕ) × ((type_of sc e ≡ ill k) × (at + k ≡ m))
unfolding typed_at placed
ill_there m sc at r {e} {n} x y = go (type_of sc e) refl (rw x at y)
  where
    go : (w : Typed) → type_of sc e ≡ w → placed at n w ≡ Err m → (k : ℕ) × ((type_of sc e ≡ ill k) × (at + k ≡ m))
    go (typed t) f z = absurd cc
    go (ill k) f z = (k, (f, cc))

-- the operands before an offset have these types, and k more stand from there on
pub record Judged (sc : Scope) (x : Call) (ts : List Ty) (k at : ℕ) : Type 0 where
  pub done : List Exp
  pub types : Typeds sc done ts
  pub reached : Reached x done k at
  pub offset : x.at + (head_size x.c + sizes done) ≡ at

pub unjudged : (sc : Scope) (x : Call) {h : ℕ} → h ≡ head_size x.c → Judged sc x [] x.k (x.at + h)
unfolding sizes
unjudged sc x e = record { done = []; types = none; reached = begin x e; offset = omega arith }

abbrev answer_at : Scope → Call → ℕ → Result TypedTo ℕ
answer_at sc x at = typed_at sc at (expression (drop at x.s))

-- the answer of the whole from the type of what is built
answer : (sc : Scope) (x : Call) {y : Typed} (es : List Exp) → (all x).es ≡ es → type_of sc (build (drop x.at x.s) es) ≡ y → answer_at sc x x.at ≡ placed x.at (all x).size y
unfolding typed_at
answer sc x es q e = rw ((all x).read, q) (ap (placed x.at (all x).size) e)

module _ {sc : Scope} {x : Call} {ts : List Ty} {k at : ℕ} (j : Judged sc x ts k at) where
  -- what the check of the next operand asks: less depth than t, an offset inside, the limits
  pub asked : {t : ℕ} → 0 < k → x.depth ≡ t → (x.depth - 1 < t) × ((at ≤ length x.s) × (fits_at (x.depth - 1) (expression (drop at x.s)) ≡ true))
  asked l e = let y = next j.reached l in (omega (arith, e, deep x), (y.inside, y.fits))

  -- the next operand has a type
  pub onward : {t : TypedTo} → 0 < k → answer_at sc x at ≡ Ok t → Judged sc x (ts ++ (t.ty ∷ [])) (k - 1) t.next
  unfolding sizes
  onward {t} l a =
      let y = next j.reached l in
      let w = typed_there sc at (expression (drop at x.s)) y.read a in
      record {
        done = j.done ++ (y.e ∷ []);
        types = typeds_end j.types y.e w.0;
        reached = subst (λ (i : ℕ). Reached x (j.done ++ (y.e ∷ [])) (k - 1) i) w.1 y.onward;
        offset = omega (arith, j.offset, w.1, sizes_append j.done (y.e ∷ []), size_is (drop at x.s) y.read);
      }

  -- the next operand fails
  pub exit_ill : (q : ℕ) → 0 < k → answer_at sc x at ≡ Err q → answer_at sc x x.at ≡ Err q
  unfolding placed
  exit_ill q l a =
      let y = next j.reached l in
      let z = ill_there q sc at (expression (drop at x.s)) y.read a in
      let r = y.onward.rest in
      let t : (all x).es ≡ j.done ++ (y.e ∷ r) = y.onward.these ∙ append_assoc j.done (y.e ∷ []) r in
      let n : length (j.done ++ (y.e ∷ r)) ≡ operands x.c = sym (ap length t) ∙ count_all x in
      let w : x.at + (head_size x.c + sizes j.done + z.0) ≡ q = omega (arith, j.offset, z.1.1) in
      answer sc x (j.done ++ (y.e ∷ r)) t (next-ill sc x j.types y.e r n z.1.0) ∙ ap Err w

  -- no operand is left
  ended : {y : Typed} → length ts ≡ x.k → Judges y → type_of sc (build (drop x.at x.s) j.done) ≡ y → by_rule x.at at (given y) ≡ answer_at sc x x.at
  ended {y} e w b =
      let l = last j.reached (omega (arith, e, x.count, counted j.reached, typeds_length j.types)) in
      let n : (all x).size ≡ at - x.at = omega (arith, l.1) in
      placed_by x.at at (omega (arith, l.1)) w ∙ sym (answer sc x j.done l.0 b ∙ ap (λ (i : ℕ). placed x.at i y) n)

module _ {sc : Scope} {x : Call} {k at : ℕ} where
  pub exit_one : {t named : Ty} → Judged sc x (t ∷ []) k at → x.k ≡ 1 → named ≡ type_at x.s (x.at + 1) → by_rule x.at at (given (one_rule x.c named t)) ≡ answer_at sc x x.at
  unfolding one_type
  exit_one j e q = ended j (sym e) (judges_if (eqb x.c 3) (_, _, refl) (_, _, refl)) (type_one sc x e j.types ∙ rw (q, type_drop x.at x.s 1))

  pub exit_two : {t v : Ty} → Judged sc x (t ∷ v ∷ []) k at → x.k ≡ 2 → by_rule x.at at (given (two_type x.c t v)) ≡ answer_at sc x x.at
  unfolding two_type
  exit_two {t} {v} j e = ended j (sym e) judges_two (type_two sc x e j.types)
    where
      judges_two : Judges (two_type x.c t v)
      judges_two = judges_if (leb x.c 17) (_, _, refl) (judges_if (leb x.c 19) (_, _, refl) (judges_if (leb x.c 21) (_, _, refl) (judges_if (leb x.c 25) (_, _, refl) (_, _, refl))))

  pub exit_if : {b t v : Ty} → Judged sc x (b ∷ t ∷ v ∷ []) k at → x.k ≡ 3 → by_rule x.at at (given (judged (is_bool b && same_type t v) t)) ≡ answer_at sc x x.at
  exit_if j e = ended j (sym e) (_, _, refl) (type_if sc x e j.types)
