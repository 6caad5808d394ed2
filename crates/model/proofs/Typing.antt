-- The value of a well-typed expression is of its type.
-- Assumes nothing.
use mathlib.Core.Path.{◌≡◌, refl, sym, subst}
use mathlib.Core.Bool.{Bool, true, false, not, cond, ◌&&◌, ◌||◌}
use Prim.Native.Nat.{ℕ, ◌-◌, ◌^◌, ◌≤◌, ◌<◌}
use native.Mathlib.Nat.{div-le_self}
use native.Mathlib.Omega.{arith}
use lib.Dec.{eqb, leb}
use lib.IntN.{ℤ, pos}
use lib.Bits.{and_lt, or_lt}
use lib.Pow.{pow_pos}
use lib.ListN.{get_or}
use borrow.Author.Tests.{eqb-true, leb-true, leb-false, le-leb, lt-leb}
use Rattle.model.specs.declared.Ty.{Ty}
use Rattle.std.specs.Prelude.{Ok, Err}
use Rattle.model.specs.Bytes.{mod_z}
use Rattle.model.specs.Values.{bool, no_type, is_bool, is_number, is_plain, well_sized, in_precision, same_type, within, least, greatest, pattern, wrap, truth, eq_z, is_true, Outcome, gives, arithmetic, bitwise, compare, logic, apply, apply_one}
use Rattle.model.specs.Expressions.{Exp, literal, matched, variable, cast, one, two, if, Typed, typed, ill, judged, operand_at, one_type, two_type, type_of, precise, Env, then, value_of}
use Rattle.model.proofs.Tests.{and_left, and_right, and₂, and₃, cases}
use Rattle.model.proofs.Wrapping.{pattern_lt, read_within, wrap_within}

-- a type that an expression may have: bool, signed or unsigned, with a precision
pub record Fine (t : Ty) : Type 0 where
  pub plain : is_plain t ≡ true
  pub low : 1 ≤ t.p

-- what works out to a value of type t, or to a fault
abbrev pub Of : Ty → Outcome → Type 0
Of t (Ok v) = (v.ty ≡ t) × (within t v.value ≡ true)
Of t (Err x) = Unit {0}

abbrev pub Good : Ty → Outcome → Type 0
Good t x = Fine t × Of t x

-- an if keeps what both sides have
cond_keeps : {A : Type 0} (P : A → Type 0) (b : Bool) (x y : A) → P x → P y → P (cond b x y)
cond_keeps P true x y p q = p
cond_keeps P false x y p q = q

-- ── operators ────────────────────────────────────────────────────────────────────────────────

truth_within : (b : Bool) → within bool (truth b) ≡ true
unfolding within least greatest bool truth
truth_within true = refl
truth_within false = refl

complement : (n m : ℕ) → 0 < m → m - 1 - n < m
complement n m h = omega arith

arithmetic_of : (o : ℕ) (t : Ty) (a b : ℤ) → 1 ≤ t.p → Of t (arithmetic o t a b)
arithmetic_of o t a b h = unfold arithmetic in
    cond_keeps (Of t) (eqb o 10) _ _ (refl, wrap_within t _ h)
    (cond_keeps (Of t) (eqb o 11) _ _ (refl, wrap_within t _ h)
    (cond_keeps (Of t) (eqb o 12) _ _ (refl, wrap_within t _ h)
    (cond_keeps (Of t) (eq_z b (pos 0)) _ _ tt
    (cond_keeps (Of t) (eqb o 13) _ _ (refl, wrap_within t _ h) (refl, wrap_within t _ h)))))

bitwise_within : (o : ℕ) (t : Ty) (a b : ℤ) → 1 ≤ t.p → within t (bitwise o t a b) ≡ true
bitwise_within o t a b h = unfold bitwise in
    let x = pattern_lt t a in
    let y = pattern_lt t b in
    let keeps = cond_keeps (λ (z : ℤ). within t z ≡ true) in
    keeps (eqb o 15) _ _ (read_within t _ h (and_lt t.p _ _ x y))
    (keeps (eqb o 16) _ _ (read_within t _ h (or_lt t.p _ _ x y))
    (keeps (eqb o 17) _ _ (read_within t _ h (complement _ (2 ^ t.p) (pow_pos t.p)))
    (keeps (eqb o 18) _ _ (wrap_within t _ h) (read_within t _ h (omega (arith, x, div-le_self (pattern t a) (2 ^ mod_z b 32)))))))

-- ── what a type's tests say ──────────────────────────────────────────────────────────────────

-- the type that a rule judges
judged_good : (b : Bool) (t u : Ty) (x : Outcome) → judged b t ≡ typed u → (b ≡ true → Good t x) → Good u x
unfolding judged
judged_good true t u x e f = let q : t ≡ u = cc in subst (λ (v : Ty). Good v x) q (f refl)
judged_good false t u x e f = let z : ◌≡◌ {A = ℕ} 0 1 = cc in absurd (omega arith)

-- an operand has a type
operand_typed : {A : Type 0} (at : ℕ) (x : Typed) (f : Ty → Typed) (u : Ty) → operand_at at x f ≡ typed u → ((t : Ty) → x ≡ typed t → f t ≡ typed u → A) → A
unfolding operand_at
operand_typed at (typed t) f u e k = k t refl e
operand_typed at (ill m) f u e k = let z : ◌≡◌ {A = ℕ} 0 1 = cc in absurd (omega arith)

pub same_type_lem : (t u : Ty) → same_type t u ≡ true → t ≡ u
same_type_lem t u e = unfold same_type in
    let h = and₂ (eqb t.kind u.kind) (eqb t.p u.p) e in
    λ i. record { kind = (eqb-true t.kind u.kind h.0) i; p = (eqb-true t.p u.p h.1) i }

-- a fine bool is bool
is_bool_lem : (t : Ty) → Fine t → is_bool t ≡ true → t ≡ bool
is_bool_lem t f e = unfold is_bool is_plain well_sized bool in
    let w = and_right (leb t.kind 2) (not (eqb t.kind 0) || eqb t.p 1) f.plain in
    λ i. record { kind = (eqb-true t.kind 0 e) i; p = (eqb-true t.p 1 (rw e at w)) i }

is_number_lem : (t : Ty) → is_number t ≡ true → is_plain t ≡ true
is_number_lem t e = unfold is_number is_plain well_sized is_bool in cases (eqb t.kind 1) (λ h. rw (eqb-true t.kind 1 h)) (λ h. rw (eqb-true t.kind 2 (rw h at e)))

in-low : (t : Ty) → in_precision t ≡ true → 1 ≤ t.p
in-low t e = unfold in_precision in leb-true 1 t.p (and_left (leb 1 t.p) (leb t.p 30) e)

-- ── the value of an expression ───────────────────────────────────────────────────────────────

-- a value that may be named: of its type, which has a precision
pub record Named (t : Ty) (z : ℤ) : Type 0 where
  pub low : 1 ≤ t.p
  pub fits : within t z ≡ true

pub record GoodEnv (en : Env) : Type 0 where
  pub ins : (i : ℕ) → is_plain (get_or en.scope.ins i no_type) ≡ true → Named (get_or en.scope.ins i no_type) (get_or en.ins i (pos 0))
  pub vars : (j : ℕ) → is_plain (get_or en.scope.vars j no_type) ≡ true → Named (get_or en.scope.vars j no_type) (get_or en.vars j (pos 0))

named_good : (t u : Ty) (z : ℤ) → judged (is_plain t) t ≡ typed u → (is_plain t ≡ true → Named t z) → Good u (gives t z)
named_good t u z e f = judged_good (is_plain t) t u (gives t z) e (λ h. (record { plain = h; low = (f h).low }, (refl, (f h).fits)))

then_good : (t v : Ty) (x : Outcome) (f : Ty → ℤ → Outcome) → Good t x → ((a : ℤ) → Good v (f t a)) → Good v (then x f)
unfolding then
then_good t v (Ok u) f p g = rw p.1.0 (g u.value)
then_good t v (Err x) f p g = ((g (pos 0)).0, tt)

-- not and lnot
one_good : (o : ℕ) (t v : Ty) (a : ℤ) → Fine t → one_type o t ≡ typed v → Good v (apply_one o t a)
one_good o t v a f e = unfold apply_one one_type in
    let x : cond (eqb o 4) (is_bool t) (is_number t) ≡ true → Of t (apply_one o t a) = λ h.
    cases (eqb o 4) (λ c. rw c (let q = is_bool_lem t f (rw c at h) in (sym q, rw q (truth_within (not (is_true a))))))
    (λ c. rw c (refl, read_within t _ f.low (complement _ (2 ^ t.p) (pow_pos t.p)))) in
    judged_good (cond (eqb o 4) (is_bool t) (is_number t)) t v (apply_one o t a) e (λ h. (f, x h))

-- the two-operand operators: up to 19 the left side's type, then bool
two_of : (o : ℕ) (t : Ty) (a b : ℤ) → 1 ≤ t.p → Of (cond (leb o 19) t bool) (apply o t a b)
two_of o t a b h = unfold apply in
    cases (leb o 19) (λ d. rw d (cond_keeps (Of t) (leb o 14) _ _ (arithmetic_of o t a b h) (refl, bitwise_within o t a b h)))
    (λ d. rw (lt-leb o 14 (omega (arith, leb-false o 19 d)), d) (cond_keeps (Of bool) (leb o 25) _ _ (refl, truth_within (compare o a b)) (refl, truth_within (logic o a b))))

two_good : (o : ℕ) (t u v : Ty) (a b : ℤ) → Fine t → two_type o t u ≡ typed v → Good v (apply o t a b)
two_good o t u v a b f e = unfold two_type in
    let fine-bool : Fine bool = unfold is_plain well_sized is_bool bool in record { plain = refl; low = omega arith } in
    let good : (c : Bool) (w : Ty) → cond (leb o 19) t bool ≡ w → judged c w ≡ typed v → Good v (apply o t a b)
    = λ c w k q. judged_good c w v (apply o t a b) q (λ h. rw (← k) (cond_keeps Fine (leb o 19) t bool f fine-bool, two_of o t a b f.low)) in
    cases (leb o 17) (λ c. good _ t (rw (le-leb o 19 (omega (arith, leb-true o 17 c)))) (rw c at e))
    (λ c. cases (leb o 19) (λ d. good _ t (rw d) (rw (c, d) at e))
    (λ d. cases (leb o 21) (λ g. good _ bool (rw d) (rw (c, d, g) at e))
    (λ g. cases (leb o 25) (λ h. good _ bool (rw d) (rw (c, d, g, h) at e)) (λ h. good _ bool (rw d) (rw (c, d, g, h) at e)))))

pub value_of_lem : (en : Env) → GoodEnv en → (e : Exp) → precise e ≡ true → (t : Ty) → type_of en.scope e ≡ typed t → Good t (value_of en e)
unfolding type_of precise value_of
value_of_lem en g (literal u z) p t q =
    judged_good (is_plain u && within u z) u t (gives u z) q (λ h. (let a = and₂ (is_plain u) (within u z) h in (record { plain = a.0; low = in-low u p }, (refl, a.1))))
value_of_lem en g (matched i) p t q = named_good (get_or en.scope.ins i no_type) t _ q (g.ins i)
value_of_lem en g (variable j) p t q = named_good (get_or en.scope.vars j no_type) t _ q (g.vars j)
value_of_lem en g (cast u e) p t q =
    let ps = and₂ (in_precision u) (precise e) p in
    operand_typed 3 (type_of en.scope e) _ t q (λ v is r. then_good v t (value_of en e) _ (value_of_lem en g e ps.1 v is)
    (λ a. judged_good (is_number u && is_number v) u t (gives u (wrap u a)) r
    (λ h. (record { plain = is_number_lem u (and_left (is_number u) (is_number v) h); low = in-low u ps.0 }, (refl, wrap_within u a (in-low u ps.0))))))
value_of_lem en g (one c e) p t q =
    operand_typed 1 (type_of en.scope e) _ t q (λ u is r.
    let x = value_of_lem en g e p u is in
    then_good u t (value_of en e) _ x (λ a. one_good c u t a x.0 r))
value_of_lem en g (two c e f) p t q =
    let ps = and₂ (precise e) (precise f) p in
    operand_typed 1 (type_of en.scope e) _ t q (λ u is r. operand_typed _ (type_of en.scope f) _ t r (λ v iz k.
    let x = value_of_lem en g e ps.0 u is in
    then_good u t (value_of en e) _ x (λ a. then_good v t (value_of en f) _ (value_of_lem en g f ps.1 v iz) (λ b. two_good c u v t a b x.0 k))))
value_of_lem en g (if c e f) p t q =
    let ps = and₃ (precise c) (precise e) (precise f) p in
    operand_typed 1 (type_of en.scope c) _ t q (λ b is r. operand_typed _ (type_of en.scope e) _ t r (λ u iu k. operand_typed _ (type_of en.scope f) _ t k (λ v iv m.
    then_good b t (value_of en c) _ (value_of_lem en g c ps.0 b is) (λ a. judged_good (is_bool b && same_type u v) u t (cond (is_true a) (value_of en e) (value_of en f)) m (λ h.
    let w = same_type_lem u v (and_right (is_bool b) (same_type u v) h) in
    cond_keeps (Good u) (is_true a) _ _ (value_of_lem en g e ps.1 u iu) (subst (λ (y : Ty). Good y (value_of en f)) (sym w) (value_of_lem en g f ps.2 v iv)))))))
