-- The type of an expression: through a scope only by number, and where it fails.
-- Assumes nothing.
use mathlib.Core.Path.{◌≡◌, refl, sym, ap, ◌∙◌}
use mathlib.Core.Bool.{Bool, true, false, cond, ◌&&◌}
use mathlib.Core.List.{List}
use Prim.Native.Nat.{ℕ, ◌+◌, ◌-◌, ◌≤◌, ◌<◌}
use native.Mathlib.Omega.{arith}
use lib.Dec.{leb, ltb}
use lib.ListN.{drop, length, length-drop}
use borrow.Author.Tests.{ltb-true, ltb-false}
use Rattle.model.specs.declared.Ty.{Ty}
use Rattle.model.specs.Values.{is_bool, is_plain, same_type, bool, carried}
use Rattle.model.specs.Expressions.{Exp, literal, matched, variable, cast, one, two, if, Read, bad, got, expression, size_of, Scope, Typed, typed, ill, judged, operand_at, one_type, two_type, type_of}
use Rattle.model.specs.Rules.{also, fit_if, tag_fits, has_type, guard_fits, action_fits, send}
use Rattle.expressions.specs.Reading.{limits_read}
use Rattle.expressions.proofs.Depths.{All, bounded}
use Rattle.expressions.proofs.Parts.{size_is}
use Rattle.types.specs.declared.Typed.{Typed as TypedTo}
use Rattle.types.specs.Scopes.{placed, typed_at}
use Rattle.rules.proofs.Ends.{nothing_there}
use Rattle.std.specs.Prelude.{Ok, Err}
use Rattle.typing.specs.Fits.{Agree, exp_read, fitting_of}

-- ── the same scope by number ─────────────────────────────────────────────────────────────────

operand_same : (at : ℕ) (r s : Typed) (f g : Ty → Typed) → r ≡ s → ((t : Ty) → f t ≡ g t) → operand_at at r f ≡ operand_at at s g
unfolding operand_at
operand_same at r s f g e h = ap (λ (x : Typed). operand_at at x f) e ∙ go s
  where
    go : (x : Typed) → operand_at at x f ≡ operand_at at x g
    go (typed t) = h t
    go (ill k) = refl

pub type_same : (s t : Scope) → Agree s t → (e : Exp) → type_of s e ≡ type_of t e
unfolding type_of
type_same s t h (literal u z) = refl
type_same s t h (matched i) = ap (λ (u : Ty). judged (is_plain u) u) (h.ins i)
type_same s t h (variable j) = ap (λ (u : Ty). judged (is_plain u) u) (h.vars j)
type_same s t h (cast u e) = operand_same 3 (type_of s e) (type_of t e) _ _ (type_same s t h e) (λ v. refl)
type_same s t h (one o e) = operand_same 1 (type_of s e) (type_of t e) _ _ (type_same s t h e) (λ v. refl)
type_same s t h (two o e f) = operand_same 1 (type_of s e) (type_of t e) _ _ (type_same s t h e) (λ u. operand_same (1 + size_of e) (type_of s f) (type_of t f) _ _ (type_same s t h f) (λ v. refl))
type_same s t h (if c e f) =
    operand_same 1 (type_of s c) (type_of t c) _ _ (type_same s t h c)
    (λ b. operand_same (1 + size_of c) (type_of s e) (type_of t e) _ _ (type_same s t h e)
    (λ u. operand_same (1 + size_of c + size_of e) (type_of s f) (type_of t f) _ _ (type_same s t h f) (λ v. refl)))

-- ── where it fails ───────────────────────────────────────────────────────────────────────────

-- within the n bytes of the expression
unfoldable pub Below : ℕ → Typed → Type 0
Below n (typed t) = Unit {0}
Below n (ill k) = k < n

judged_below : (b : Bool) (t : Ty) (n : ℕ) → 0 < n → Below n (judged b t)
unfolding Below judged
judged_below true t n h = tt
judged_below false t n h = h

operand_below : (at m n : ℕ) (r : Typed) (f : Ty → Typed) → at + m ≤ n → Below m r → ((t : Ty) → Below n (f t)) → Below n (operand_at at r f)
unfolding Below operand_at
operand_below at m n (typed t) f l h g = g t
operand_below at m n (ill k) f l h g = omega arith

two_below : (a b c d x y z w v : Bool) (t u : Ty) (n : ℕ) → 0 < n → Below n (cond a (judged x t) (cond b (judged y t) (cond c (judged z u) (cond d (judged w u) (judged v u)))))
two_below true b c d x y z w v t u n h = judged_below x t n h
two_below false true c d x y z w v t u n h = judged_below y t n h
two_below false false true d x y z w v t u n h = judged_below z u n h
two_below false false false true x y z w v t u n h = judged_below w u n h
two_below false false false false x y z w v t u n h = judged_below v u n h

pub below : (sc : Scope) (e : Exp) → Below (size_of e) (type_of sc e)
unfolding type_of size_of one_type two_type
below sc (literal t z) = judged_below _ t 7 (omega arith)
below sc (matched i) = judged_below _ _ 2 (omega arith)
below sc (variable j) = judged_below _ _ 2 (omega arith)
below sc (cast t e) = operand_below 3 (size_of e) (3 + size_of e) (type_of sc e) _ (omega arith) (below sc e) (λ u. judged_below _ t _ (omega arith))
below sc (one o e) = operand_below 1 (size_of e) (1 + size_of e) (type_of sc e) _ (omega arith) (below sc e) (λ t. judged_below _ t _ (omega arith))
below sc (two o e f) =
    operand_below 1 (size_of e) (1 + size_of e + size_of f) (type_of sc e) _ (omega arith) (below sc e)
    (λ t. operand_below (1 + size_of e) (size_of f) (1 + size_of e + size_of f) (type_of sc f) _ (omega arith) (below sc f)
    (λ u. two_below (leb o 17) (leb o 19) (leb o 21) (leb o 25) _ _ _ _ _ t bool _ (omega arith)))
below sc (if c e f) =
    let n = 1 + size_of c + size_of e + size_of f in
    operand_below 1 (size_of c) n (type_of sc c) _ (omega arith) (below sc c)
    (λ b. operand_below (1 + size_of c) (size_of e) n (type_of sc e) _ (omega arith) (below sc e)
    (λ t. operand_below (1 + size_of c + size_of e) (size_of f) n (type_of sc f) _ (omega arith) (below sc f)
    (λ u. judged_below _ t n (omega arith))))

-- ── the answers of the type check ────────────────────────────────────────────────────────────

pub exp_there : (b : List ℕ) (at : ℕ) → limits_read (expression (drop at b)) ≡ true → at ≤ length b
unfolding limits_read
exp_there b at e = go (ltb at (length b)) refl
  where
    go : (t : Bool) → ltb at (length b) ≡ t → at ≤ length b
    go true q = omega (arith, ltb-true at (length b) q)
    go false q = let z : false ≡ true = rw (nothing_there b at (ltb-false at (length b) q)) at e in cc

module _ (sc : Scope) (u : List ℕ) where
  typed_go : (r : Read Exp) {x : TypedTo} → limits_read r ≡ true → Ok x ≡ typed_at sc 0 r → type_of sc (exp_read r) ≡ typed x.ty
  unfolding limits_read typed_at exp_read placed
  typed_go bad l e = cc
  typed_go (got e n) {x} l q = go (type_of sc e) q
    where
      go : (y : Typed) → Ok x ≡ placed 0 n y → y ≡ typed x.ty
      go (typed v) q = let w : x ≡ record { ty = v; next = 0 + n } = cc in ap typed (sym (ap (λ (x : TypedTo). x.ty) w))
      go (ill k) q = cc

  ill_go : (r : Read Exp) {k : ℕ} → limits_read r ≡ true → Err k ≡ typed_at sc 0 r → type_of sc (exp_read r) ≡ ill k
  unfolding limits_read typed_at exp_read placed
  ill_go bad l e = cc
  ill_go (got x n) {k} l e = go (type_of sc x) e
    where
      go : (y : Typed) → Err k ≡ placed 0 n y → y ≡ ill k
      go (typed v) q = cc
      go (ill j) q = let w : k ≡ 0 + j = cc in ap ill (omega arith)

  pub is_typed_lem : {x : TypedTo} → limits_read (expression u) ≡ true → Ok x ≡ typed_at sc 0 (expression u) → type_of sc (exp_read (expression u)) ≡ typed x.ty
  is_typed_lem l e = typed_go (expression u) l e

  pub is_ill : {k : ℕ} → limits_read (expression u) ≡ true → Err k ≡ typed_at sc 0 (expression u) → type_of sc (exp_read (expression u)) ≡ ill k
  is_ill l e = ill_go (expression u) l e

  ill_bound : (r : Read Exp) {k : ℕ} → expression u ≡ r → limits_read r ≡ true → type_of sc (exp_read r) ≡ ill k → All (λ x m. (1 ≤ m) × (m ≤ length u)) r → k < length u
  unfolding limits_read exp_read All Below
  ill_bound bad q l e h = cc
  ill_bound (got x n) {k} q l e h =
      let w : Below (size_of x) (type_of sc x) = below sc x in
      let v : k < size_of x = rw e at w in
      omega (arith, size_is u q)

  pub ill_inside : {k : ℕ} → limits_read (expression u) ≡ true → Err k ≡ typed_at sc 0 (expression u) → k < length u
  ill_inside l e = ill_bound (expression u) refl l (is_ill l e) (bounded u)

-- ── guards, and expressions that are sent ────────────────────────────────────────────────────

module _ (sc : Scope) (b u : List ℕ) (at : ℕ) (d : u ≡ drop at b) (l : limits_read (expression (drop at b)) ≡ true) where
  part_limits : limits_read (expression u) ≡ true
  part_limits = ap (λ (x : List ℕ). limits_read (expression x)) d ∙ l

  pub part_typed : {x : TypedTo} → Ok x ≡ typed_at sc 0 (expression u) → type_of sc (exp_read (expression (drop at b))) ≡ typed x.ty
  part_typed e = ap (λ (x : List ℕ). type_of sc (exp_read (expression x))) (sym d) ∙ is_typed_lem sc u part_limits e

  pub part_ill : {k : ℕ} → Err k ≡ typed_at sc 0 (expression u) → type_of sc (exp_read (expression (drop at b))) ≡ ill k
  part_ill e = ap (λ (x : List ℕ). type_of sc (exp_read (expression x))) (sym d) ∙ is_ill sc u part_limits e

  pub part_inside : {k : ℕ} → Err k ≡ typed_at sc 0 (expression u) → k < length b - at
  part_inside e = let q : length u ≡ length b - at = ap length d ∙ length-drop at b in omega (arith, ill_inside sc u part_limits e)

pub guard_typed : (at : ℕ) (r : Typed) (t : Ty) (q : Bool) → r ≡ typed t → q ≡ is_bool t → fit_if q at ≡ guard_fits at r
unfolding guard_fits
guard_typed at r t q e g = rw (e, g)

pub guard_ill : (at : ℕ) (r : Typed) (k : ℕ) → r ≡ ill k → Err (at + k) ≡ fitting_of (guard_fits at r)
unfolding guard_fits fitting_of
guard_ill at r k e = rw e

also-if : (p q : Bool) (at : ℕ) → fit_if (p && q) at ≡ also (fit_if p at) (fit_if q at)
unfolding fit_if also
also-if true q at = refl
also-if false q at = refl

module _ (sc : Scope) (at tag : ℕ) (t : Ty) (e : Exp) where
  pub sent_typed_lem : (u w : Ty) (p q : Bool) → type_of sc e ≡ typed u → w ≡ carried t → p ≡ same_type u w → q ≡ tag_fits t tag → fit_if (p && q) at ≡ action_fits sc at t (send tag e)
  unfolding action_fits has_type
  sent_typed_lem u w p q x y z v = also-if p q at ∙ rw (x, z, v, y)

  pub sent_ill : (k : ℕ) → type_of sc e ≡ ill k → Err (at + 1 + k) ≡ fitting_of (action_fits sc at t (send tag e))
  unfolding action_fits has_type also fitting_of
  sent_ill k x = rw x
