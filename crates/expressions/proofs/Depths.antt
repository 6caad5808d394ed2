-- The limits of an expression from those of its operands, read one after another.
-- Assumes nothing.
use mathlib.Core.Path.{◌≡◌, refl, sym, ap, ◌∙◌}
use mathlib.Core.Bool.{Bool, true, false, cond, ◌&&◌}
use mathlib.Core.List.{List, [], ◌∷◌}
use Prim.Native.Nat.{ℕ, zero, suc, ◌+◌, ◌-◌, ◌≤◌, ◌<◌, max}
use native.Mathlib.Nat.{le-max_left, le-max_right, max-le}
use native.Mathlib.Omega.{arith}
use lib.Dec.{leb, eqb, leb-suc-suc}
use lib.ListN.{get_or, drop, length, length-drop}
use lib.Seq.{drop-drop}
use borrow.Author.Tests.{le-leb, lt-leb, leb-true, leb-false, eqb-true, eqb-false, ne_eqb}
use Rattle.std.specs.Prelude.{Option, Some, None}
use Rattle.std.specs.Option.{is_some}
use Rattle.model.specs.Values.{in_precision}
use Rattle.model.specs.Expressions.{Exp, literal, matched, variable, cast, one, two, if, Read, bad, got, after, read_many, head_size, operands, head_fits, provided, type_at, build, read_exp, expression, depth_of, precise, expression_limits}
use Rattle.expressions.specs.Reading.{precise_head, shallow, limits_at, limits_read}
use Rattle.expressions.proofs.Reading.{joined, others, headed, no_exp, some_exp, head_pos, behind}
use Rattle.expressions.proofs.Heads.{fits_whole}
use Rattle.expressions.proofs.Shapes.{no_operand, one_operand, two_operands, three_operands, at_most_three, build-literal, build-matched, build-variable, build-cast, build_one, build_two, build-if}

-- ── Bools ────────────────────────────────────────────────────────────────────────────────────

and_swap : (a b c d : Bool) → ((a && b) && (c && d)) ≡ ((a && c) && (b && d))
and_swap true true c d = refl
and_swap true false true d = refl
and_swap true false false d = refl
and_swap false b c d = refl

pub and_true : (b : Bool) → (b && true) ≡ b
and_true true = refl
and_true false = refl

and_assoc : (a b c : Bool) → ((a && b) && c) ≡ (a && (b && c))
and_assoc true b c = refl
and_assoc false b c = refl

and_mid : (a b c : Bool) → (a && (b && c)) ≡ (b && (a && c))
and_mid true true c = refl
and_mid true false c = refl
and_mid false true c = refl
and_mid false false c = refl

leb_max : (a b d : ℕ) → leb (max a b) d ≡ (leb a d && leb b d)
leb_max a b d = go (leb a d) (leb b d) refl refl
  where
    go : (x y : Bool) → leb a d ≡ x → leb b d ≡ y → leb (max a b) d ≡ (x && y)
    go true true e f = le-leb (max a b) d (max-le (leb-true a d e) (leb-true b d f))
    go true false e f = lt-leb (max a b) d (omega (arith, leb-false b d f, le-max_right a b))
    go false y e f = lt-leb (max a b) d (omega (arith, leb-false a d e, le-max_left a b))

pub two_left : (c : ℕ) → c ≤ 2 → (c ≡ 0 → ⊥) → (c ≡ 1 → ⊥) → c ≡ 2
two_left zero l e f = absurd (e refl)
two_left (suc zero) l e f = absurd (f refl)
two_left (suc (suc zero)) l e f = refl
two_left (suc (suc (suc c))) l e f = absurd (omega arith)

pub four_up : (c : ℕ) → 3 ≤ c → (c ≡ 3 → ⊥) → 4 ≤ c
four_up zero l e = absurd (omega arith)
four_up (suc zero) l e = absurd (omega arith)
four_up (suc (suc zero)) l e = absurd (omega arith)
four_up (suc (suc (suc zero))) l e = absurd (e refl)
four_up (suc (suc (suc (suc c)))) l e = omega arith

-- ── a level of depth ─────────────────────────────────────────────────────────────────────────

unfoldable pub all_shallow : ℕ → List Exp → Bool
all_shallow d [] = true
all_shallow d (e ∷ es) = shallow d e && all_shallow d es

module _ (d : ℕ) where
  one_deep : (e : Exp) (b : Bool) → (leb (suc (depth_of e)) (suc d) && (b && precise e)) ≡ (b && (shallow d e && true))
  unfolding shallow
  one_deep e b = rw (leb-suc-suc (depth_of e) d, and_true (leb (depth_of e) d && precise e)) (and_mid (leb (depth_of e) d) b (precise e))

  two_deep : (e f : Exp) → (leb (suc (max (depth_of e) (depth_of f))) (suc d) && (precise e && precise f)) ≡ (shallow d e && (shallow d f && true))
  unfolding shallow
  two_deep e f = rw (leb-suc-suc (max (depth_of e) (depth_of f)) d, leb_max (depth_of e) (depth_of f) d, and_true (leb (depth_of f) d && precise f)) (and_swap (leb (depth_of e) d) (leb (depth_of f) d) (precise e) (precise f))

  three_deep : (c e f : Exp) → (leb (suc (max (depth_of c) (max (depth_of e) (depth_of f)))) (suc d) && ((precise c && precise e) && precise f)) ≡ (shallow d c && (shallow d e && (shallow d f && true)))
  unfolding shallow
  three_deep c e f =
      let m = max (depth_of e) (depth_of f) in
      rw (leb-suc-suc (max (depth_of c) m) d, leb_max (depth_of c) m d, leb_max (depth_of e) (depth_of f) d, and_true (leb (depth_of f) d && precise f), and_assoc (precise c) (precise e) (precise f))
      (and_swap (leb (depth_of c) d) (leb (depth_of e) d && leb (depth_of f) d) (precise c) (precise e && precise f)
      ∙ ap (λ (b : Bool). (leb (depth_of c) d && precise c) && b) (and_swap (leb (depth_of e) d) (leb (depth_of f) d) (precise e) (precise f)))

-- the head is precise and the operands keep the limits, one level less deep
module _ (d : ℕ) (s : List ℕ) (c : ℕ) (h : get_or s 0 0 ≡ c) where
  built_none : (b x : Bool) → eqb c 0 ≡ b → eqb c 1 ≡ x → c ≤ 2 → shallow (suc d) (build s []) ≡ (precise_head s && true)
  unfolding shallow precise_head depth_of precise
  built_none true x e f l = rw (build-literal s c h [] (eqb-true c 0 e), h, e, le-leb 1 (suc d) (omega arith)) (sym (and_true _))
  built_none false true e f l = rw (build-matched s c h [] (eqb-true c 1 f), h, e, ne_eqb c 3 (λ i. omega arith), le-leb 1 (suc d) (omega arith))
  built_none false false e f l = rw (build-variable s c h [] (two_left c l (eqb-false c 0 e) (eqb-false c 1 f)), h, e, ne_eqb c 3 (λ i. omega arith), le-leb 1 (suc d) (omega arith))

  built_one : (b : Bool) (x : Exp) → eqb c 3 ≡ b → 3 ≤ c → c ≤ 5 → shallow (suc d) (build s (x ∷ [])) ≡ (precise_head s && (shallow d x && true))
  unfolding shallow precise_head depth_of precise
  built_one true x e l m = rw (build-cast s c h x (eqb-true c 3 e), h, ne_eqb c 0 (λ i. omega arith), e) (one_deep d x (in_precision (type_at s 1)))
  built_one false x e l m = rw (build_one s c h x (four_up c l (eqb-false c 3 e)) m, h, ne_eqb c 0 (λ i. omega arith), e) (one_deep d x true)

  built_two : (x y : Exp) → 6 ≤ c → c ≤ 27 → shallow (suc d) (build s (x ∷ y ∷ [])) ≡ (precise_head s && (shallow d x && (shallow d y && true)))
  unfolding shallow precise_head depth_of precise
  built_two x y l m = rw (build_two s c h x y l m, h, ne_eqb c 0 (λ i. omega arith), ne_eqb c 3 (λ i. omega arith)) (two_deep d x y)

  built_if : (x y z : Exp) → 28 ≤ c → shallow (suc d) (build s (x ∷ y ∷ z ∷ [])) ≡ (precise_head s && (shallow d x && (shallow d y && (shallow d z && true))))
  unfolding shallow precise_head depth_of precise
  built_if x y z l = rw (build-if s c h x y z l, h, ne_eqb c 0 (λ i. omega arith), ne_eqb c 3 (λ i. omega arith)) (three_deep d x y z)

  pub built : (es : List Exp) → length es ≡ operands c → shallow (suc d) (build s es) ≡ (precise_head s && all_shallow d es)
  unfolding all_shallow
  built [] e = built_none (eqb c 0) (eqb c 1) refl refl (no_operand c (sym e))
  built (x ∷ []) e = let r = one_operand c (sym e) in built_one (eqb c 3) x refl r.0 r.1
  built (x ∷ y ∷ []) e = let r = two_operands c (sym e) in built_two x y r.0 r.1
  built (x ∷ y ∷ z ∷ []) e = built_if x y z (three_operands c (sym e))
  built (x ∷ y ∷ z ∷ w ∷ es) e = absurd (omega (arith, at_most_three c))

-- ── many ─────────────────────────────────────────────────────────────────────────────────────

-- what holds of the things read and the bytes they take
unfoldable pub All : {A : Type 0} → (A → ℕ → Type 0) → Read A → Type 0
All P bad = Unit {0}
All P (got a n) = P a n

pub all_map : {A : Type 0} {P Q : A → ℕ → Type 0} (r : Read A) → ((a : A) (n : ℕ) → P a n → Q a n) → All P r → All Q r
unfolding All
all_map bad f h = tt
all_map (got a n) f h = f a n h

pub all_got : {A : Type 0} (P : A → ℕ → Type 0) {r : Read A} {a : A} {n : ℕ} → All P r → r ≡ got a n → P a n
unfolding All
all_got P h e = rw e at h

-- what holds of many, by one more in front
module _ {A : Type 0} (f : List ℕ → Read A) (P : ℕ → List ℕ → List A → ℕ → Type 0)
    (base : (s : List ℕ) → P 0 s [] 0)
    (step : (k : ℕ) (s : List ℕ) (a : A) (n : ℕ) (xs : List A) (m : ℕ) → f s ≡ got a n → P k (drop n s) xs m → P (suc k) s (a ∷ xs) (n + m)) where
  many_joined : (k : ℕ) (s : List ℕ) (a : A) (n : ℕ) (r : Read (List A)) → f s ≡ got a n → All (P k (drop n s)) r → All (P (suc k) s) (joined a n r)
  unfolding All after
  many_joined k s a n bad e h = tt
  many_joined k s a n (got xs m) e h = step k s a n xs m e h

  many_others : (k : ℕ) (s : List ℕ) (r : Read A) → f s ≡ r → ((u : List ℕ) → All (P k u) (read_many f k u)) → All (P (suc k) s) (others f k s r)
  unfolding All after
  many_others k s bad e h = tt
  many_others k s (got a n) e h = many_joined k s a n (read_many f k (drop n s)) e (h (drop n s))

  pub all_many : (k : ℕ) (s : List ℕ) → All (P k s) (read_many f k s)
  unfolding All read_many
  all_many zero s = base s
  all_many (suc k) s = many_others k s (f s) refl (all_many k)

module _ (f : List ℕ → Read Exp) where
  pub sized : (k : ℕ) (s : List ℕ) → All (λ es m. length es ≡ k) (read_many f k s)
  sized = all_many f (λ k s es m. length es ≡ k) (λ s. refl) (λ k s a n es m e h. ap suc h)

  within_many : ((u : List ℕ) → All (λ e n. n ≤ length u) (f u)) → (k : ℕ) (s : List ℕ) → All (λ es m. m ≤ length s) (read_many f k s)
  within_many g = all_many f (λ k s es m. m ≤ length s) (λ s. omega arith) (λ k s a n es m e h. omega (arith, length-drop n s, all_got (λ e n. n ≤ length s) (g s) e))

-- what is read takes a byte at least, and no more than there are
abbrev pub Bounded : List ℕ → Read Exp → Type 0
Bounded s r = All (λ e n. (1 ≤ n) × (n ≤ length s)) r

bounded_got : (s : List ℕ) (h : ℕ) (f : List Exp → Exp) (r : Read (List Exp)) → 1 ≤ h → h ≤ length s → All (λ es m. m ≤ length s - h) r → Bounded s (headed f h r)
unfolding All after
bounded_got s h f bad p l a = tt
bounded_got s h f (got es m) p l a = (omega arith, omega arith)

bounded_if : (b : Bool) (s : List ℕ) (r : Read Exp) → head_fits s ≡ b → (b ≡ true → Bounded s r) → Bounded s (provided b r)
unfolding All provided
bounded_if true s r e h = h refl
bounded_if false s r e h = tt

bounded_at : (d : ℕ) (s : List ℕ) → Bounded s (read_exp d s)
unfolding All read_exp
bounded_at zero s = tt
bounded_at (suc d) s =
    let c = get_or s 0 0 in
    let v = drop (head_size c) s in
    let w = within_many (λ u. read_exp d u) (λ u. all_map (read_exp d u) (λ e n w. w.1) (bounded_at d u)) (operands c) v in
    bounded_if (head_fits s) s (behind (λ u. read_exp d u) s) refl
    (λ e. bounded_got s (head_size c) (build s) (read_many (λ u. read_exp d u) (operands c) v) (head_pos c) (omega (arith, fits_whole s 0 c refl e)) (rw (length-drop (head_size c) s) at w))

pub bounded : (s : List ℕ) → Bounded s (expression s)
unfolding expression
bounded s = bounded_at (length s) s

-- ── the walk over the operands ───────────────────────────────────────────────────────────────

unfoldable pub limits_many : ℕ → ℕ → Read (List Exp) → Option ℕ
limits_many at d bad = None
limits_many at d (got es n) = cond (all_shallow d es) (Some (at + n)) None

-- the offset after k expressions from an offset on, none where one is malformed or beyond a limit
unfoldable pub limits_from : ℕ → ℕ → ℕ → List ℕ → Option ℕ
limits_from k d at s = limits_many at d (read_many expression k (drop at s))

cond-none : (b : Bool) → ◌≡◌ {A = Option ℕ} (cond b None None) None
cond-none true = refl
cond-none false = refl

module _ (d : ℕ) (s : List ℕ) where
  many_got : (b : Bool) (r : Read (List Exp)) (a : Exp) (at n : ℕ) → shallow d a ≡ b → limits_many at d (joined a n r) ≡ cond b (limits_many (at + n) d r) None
  unfolding limits_many after all_shallow
  many_got b bad a at n e = sym (cond-none b)
  many_got true (got es m) a at n e = rw e (ap (λ (k : ℕ). cond (all_shallow d es) (Some k) None) sum)
    where
      sum : at + (n + m) ≡ at + n + m
      sum = omega arith
  many_got false (got es m) a at n e = rw e

  -- by what the first of them gives
  first_bad : (k at : ℕ) (r : Read Exp) → limits_at at d r ≡ None → limits_many at d (others expression k (drop at s) r) ≡ None
  unfolding limits_at limits_many after
  first_bad k at bad e = refl
  first_bad k at (got a n) e = go (shallow d a) refl
    where
      go : (b : Bool) → shallow d a ≡ b → limits_many at d (joined a n (read_many expression k (drop n (drop at s)))) ≡ None
      go true f = let z = rw f at e in cc
      go false f = many_got false (read_many expression k (drop n (drop at s))) a at n f

  first_good : (k at m : ℕ) (r : Read Exp) → limits_at at d r ≡ Some m → limits_many at d (others expression k (drop at s) r) ≡ limits_from k d m s
  unfolding limits_at limits_many limits_from after
  first_good k at m bad e = cc
  first_good k at m (got a n) e = go (shallow d a) refl
    where
      go : (b : Bool) → shallow d a ≡ b → limits_many at d (joined a n (read_many expression k (drop n (drop at s)))) ≡ limits_from k d m s
      go true f =
          let z = rw f at e in
          let q : at + n ≡ m = cc in
          many_got true (read_many expression k (drop n (drop at s))) a at n f ∙ rw (drop-drop n at s, q)
      go false f = let z = rw f at e in cc

  pub walk-bad : (k at : ℕ) → 0 < k → limits_at at d (expression (drop at s)) ≡ None → limits_from k d at s ≡ None
  unfolding limits_from read_many
  walk-bad zero at l e = absurd (omega arith)
  walk-bad (suc k) at l e = first_bad k at (expression (drop at s)) e

  pub walk_good : (k at m : ℕ) → 0 < k → limits_at at d (expression (drop at s)) ≡ Some m → limits_from k d at s ≡ limits_from (k - 1) d m s
  unfolding limits_from read_many
  walk_good zero at m l e = absurd (omega arith)
  walk_good (suc k) at m l e =
      let q : k ≡ suc k - 1 = omega arith in
      first_good k at m (expression (drop at s)) e ∙ ap (λ (j : ℕ). limits_from j d m s) q

  pub walk_done : (k at : ℕ) → k ≤ 0 → limits_from k d at s ≡ Some at
  unfolding limits_from limits_many read_many all_shallow
  walk_done zero at l = ap Some (omega arith)
  walk_done (suc k) at l = absurd (omega arith)

  at_most : (at m : ℕ) (r : Read Exp) → at ≤ length s → All (λ e n. (1 ≤ n) × (n ≤ length s - at)) r → limits_at at d r ≡ Some m → m ≤ length s
  unfolding limits_at All
  at_most at m bad l h e = let z : ⊥ = cc in absurd z
  at_most at m (got x n) l h e = go (shallow d x) refl
    where
      go : (b : Bool) → shallow d x ≡ b → m ≤ length s
      go true f = let z = rw f at e in let q : at + n ≡ m = cc in omega arith
      go false f = let z = rw f at e in let w : ⊥ = cc in absurd w

  pub limits_within : (at m : ℕ) → at ≤ length s → limits_at at d (expression (drop at s)) ≡ Some m → m ≤ length s
  limits_within at m l e = at_most at m (expression (drop at s)) l (rw (length-drop at s) at (bounded (drop at s))) e

-- ── the expression at an offset ──────────────────────────────────────────────────────────────

pub depth_pos : (e : Exp) → 1 ≤ depth_of e
unfolding depth_of
depth_pos (literal t z) = omega arith
depth_pos (matched i) = omega arith
depth_pos (variable j) = omega arith
depth_pos (cast t e) = omega arith
depth_pos (one o e) = omega arith
depth_pos (two o e f) = omega arith
depth_pos (if c e f) = omega arith

pub no_depth : (at : ℕ) (r : Read Exp) → limits_at at 0 r ≡ None
unfolding limits_at shallow
no_depth at bad = refl
no_depth at (got e n) = rw (lt-leb (depth_of e) 0 (depth_pos e))

module _ (d : ℕ) (s : List ℕ) (at c : ℕ) (h : get_or (drop at s) 0 0 ≡ c) (fits : head_fits (drop at s) ≡ true) where
  limits-built :
      (b : Bool) (u : List ℕ) (r : Read (List Exp)) → get_or u 0 0 ≡ c → precise_head u ≡ b → All (λ es n. length es ≡ operands c) r →
      limits_at at (suc d) (headed (build u) (head_size c) r) ≡ cond b (limits_many (at + head_size c) d r) None
  unfolding limits_at limits_many after All
  limits-built b u bad g e l = sym (cond-none b)
  limits-built true u (got es n) g e l = rw (built d u c g es l, e) (ap (λ (k : ℕ). cond (all_shallow d es) (Some k) None) sum)
    where
      sum : at + (head_size c + n) ≡ at + head_size c + n
      sum = omega arith
  limits-built false u (got es n) g e l = rw (built d u c g es l, e)

  by_head : (b : Bool) → precise_head (drop at s) ≡ b → limits_at at (suc d) (expression (drop at s)) ≡ cond b (limits_from (operands c) d (at + head_size c) s) None
  unfolding limits_from
  by_head b e =
      ap (limits_at at (suc d)) (some_exp (drop at s) fits)
      ∙ rw h (limits-built b (drop at s) (read_many expression (operands c) (drop (head_size c) (drop at s))) h e (sized expression (operands c) (drop (head_size c) (drop at s))) ∙ rw (drop-drop (head_size c) at s))

module _ (s : List ℕ) (at c : ℕ) (h : get_or (drop at s) 0 0 ≡ c) (fits : head_fits (drop at s) ≡ true) where
  pub limits_imprecise : (d : ℕ) → (d ≡ 0 → ⊥) → precise_head (drop at s) ≡ false → limits_at at d (expression (drop at s)) ≡ None
  limits_imprecise zero l e = absurd (l refl)
  limits_imprecise (suc d) l e = by_head d s at c h fits false e

  pub limits_start : (d : ℕ) → (d ≡ 0 → ⊥) → precise_head (drop at s) ≡ true → limits_at at d (expression (drop at s)) ≡ limits_from (operands c) (d - 1) (at + head_size c) s
  limits_start zero l e = absurd (l refl)
  limits_start (suc d) l e =
      let q : d ≡ suc d - 1 = omega arith in
      by_head d s at c h fits true e ∙ ap (λ (j : ℕ). limits_from (operands c) j (at + head_size c) s) q

pub limits_none : (s : List ℕ) (at d : ℕ) → head_fits (drop at s) ≡ false → limits_at at d (expression (drop at s)) ≡ None
unfolding limits_at
limits_none s at d e = rw (no_exp (drop at s) e)

limits_go : (r : Read Exp) → is_some (limits_at 0 16 r) ≡ limits_read r
unfolding limits_at limits_read expression_limits shallow
limits_go bad = refl
limits_go (got e n) = go (leb (depth_of e) 16 && precise e)
  where
    go : (b : Bool) → is_some (cond b (Some (0 + n)) None) ≡ b
    go true = refl
    go false = refl

pub limits_whole : (s : List ℕ) → is_some (limits_at 0 16 (expression (drop 0 s))) ≡ limits_read (expression s)
limits_whole s = limits_go (expression s)
