-- An expression that keeps the limits, taken apart: its head, and its operands at their offsets. And the size of one that was read.
-- Assumes nothing.
use mathlib.Core.Path.{◌≡◌, refl, sym, ap, ◌∙◌, subst}
use mathlib.Core.Bool.{Bool, true, false, ◌&&◌}
use mathlib.Core.List.{List, [], ◌∷◌, ◌++◌}
use Prim.Native.Nat.{ℕ, zero, suc, ◌+◌, ◌-◌, ◌≤◌}
use native.Mathlib.Omega.{arith}
use lib.Dec.{eqb}
use lib.ListN.{get_or, drop, length}
use lib.Seq.{drop-drop}
use borrow.Author.Tests.{le-leb, lt-leb, eqb-true, eqb-false, ne_eqb}
use Rattle.model.specs.Expressions.{Exp, Read, bad, got, after, read_many, head_size, operands, head_fits, provided, build, read_exp, expression, depth_of, size_of}
use Rattle.model.proofs.Tests.{and_left, and_right}
use Rattle.expressions.specs.Reading.{precise_head, shallow, fits_at}
use Rattle.expressions.proofs.Reading.{headed, no_exp, some_exp}
use Rattle.expressions.proofs.Depths.{all_shallow, built, All, all_map, all_got, all_many, sized, depth_pos, two_left, four_up}
use Rattle.expressions.proofs.Shapes.{no_operand, one_operand, two_operands, three_operands, at_most_three, build-literal, build-matched, build-variable, build-cast, build_one, build_two, build-if}

-- ── operands one after another ───────────────────────────────────────────────────────────────

-- k expressions stand in s from at to end
pub data Run (s : List ℕ) : ℕ → ℕ → List Exp → ℕ → Type 0 where
  none : {at : ℕ} → Run s 0 at [] at
  more : {k at n end : ℕ} {e : Exp} {es : List Exp} → expression (drop at s) ≡ got e n → Run s k (at + n) es end → Run s (suc k) at (e ∷ es) end

runs : (s : List ℕ) (k at : ℕ) → All (λ es n. Run s k at es (at + n)) (read_many expression k (drop at s))
runs s k at = all_map (read_many expression k (drop at s)) (λ es n h. h at refl) (all_many expression Runs base step k (drop at s))
  where
    Runs : ℕ → List ℕ → List Exp → ℕ → Type 0
    Runs k u es n = (at : ℕ) → u ≡ drop at s → Run s k at es (at + n)

    base : (u : List ℕ) → Runs 0 u [] 0
    base u at e = let q : at ≡ at + 0 = omega arith in subst (λ (x : ℕ). Run s 0 at [] x) q none

    step : (k : ℕ) (u : List ℕ) (a : Exp) (n : ℕ) (es : List Exp) (m : ℕ) → expression u ≡ got a n → Runs k (drop n u) es m → Runs (suc k) u (a ∷ es) (n + m)
    step k u a n es m x h at e =
        let q : at + n + m ≡ at + (n + m) = omega arith in
        more (rw e at x) (rw q at (h (at + n) (ap (drop n) e ∙ drop-drop n at s)))

-- ── the expression at an offset ──────────────────────────────────────────────────────────────

pub record Parts (s : List ℕ) (at d c : ℕ) : Type 0 where
  pub es : List Exp
  pub size : ℕ
  pub read : expression (drop at s) ≡ got (build (drop at s) es) size
  pub run : Run s (operands c) (at + head_size c) es (at + size)
  pub shallower : all_shallow (d - 1) es ≡ true
  pub precise : precise_head (drop at s) ≡ true
  pub whole : head_fits (drop at s) ≡ true
  pub deep : 1 ≤ d

module _ (s : List ℕ) (at c : ℕ) (h : get_or (drop at s) 0 0 ≡ c) where
  depth_go : (d : ℕ) (es : List Exp) → length es ≡ operands c → shallow d (build (drop at s) es) ≡ true → (1 ≤ d) × ((all_shallow (d - 1) es ≡ true) × (precise_head (drop at s) ≡ true))
  unfolding shallow
  depth_go zero es l e = absurd (let z : ◌≡◌ {A = Bool} false true = rw (lt-leb (depth_of (build (drop at s) es)) 0 (depth_pos (build (drop at s) es))) at e in cc)
  depth_go (suc d) es l e =
      let q : d ≡ suc d - 1 = omega arith in
      let b : (precise_head (drop at s) && all_shallow d es) ≡ true = sym (built d (drop at s) c h es l) ∙ e in
      (omega arith, (rw q at (and_right (precise_head (drop at s)) (all_shallow d es) b), and_left (precise_head (drop at s)) (all_shallow d es) b))

  parts-got :
      (d : ℕ) (r : Read (List Exp)) → head_fits (drop at s) ≡ true → expression (drop at s) ≡ headed (build (drop at s)) (head_size c) r →
      All (λ es n. length es ≡ operands c) r → All (λ es n. Run s (operands c) (at + head_size c) es (at + head_size c + n)) r → fits_at d (expression (drop at s)) ≡ true → Parts s at d c
  unfolding All after fits_at
  parts-got d bad w x l r f = absurd (let z : ◌≡◌ {A = Bool} false true = rw x at f in cc)
  parts-got d (got es n) w x l r f =
      let g = depth_go d es l (rw x at f) in
      let q : at + head_size c + n ≡ at + (head_size c + n) = omega arith in
      record { es = es; size = head_size c + n; read = x; run = rw q at r; shallower = g.1.0; precise = g.1.1; whole = w; deep = g.0 }

  parts_by : (b : Bool) (d : ℕ) → head_fits (drop at s) ≡ b → fits_at d (expression (drop at s)) ≡ true → Parts s at d c
  unfolding fits_at
  parts_by false d e f = absurd (let z : ◌≡◌ {A = Bool} false true = rw (no_exp (drop at s) e) at f in cc)
  parts_by true d e f =
      let u = drop at s in
      let q : drop (head_size c) u ≡ drop (at + head_size c) s = drop-drop (head_size c) at s in
      parts-got d (read_many expression (operands c) (drop (head_size c) u)) e (some_exp u e ∙ rw h) (sized expression (operands c) (drop (head_size c) u)) (rw q (runs s (operands c) (at + head_size c))) f

  pub parts : (d : ℕ) → fits_at d (expression (drop at s)) ≡ true → Parts s at d c
  parts d f = parts_by (head_fits (drop at s)) d refl f

-- ── size ─────────────────────────────────────────────────────────────────────────────────────

unfoldable pub sizes : List Exp → ℕ
sizes [] = 0
sizes (e ∷ es) = size_of e + sizes es

pub sizes_append : (es fs : List Exp) → sizes (es ++ fs) ≡ sizes es + sizes fs
unfolding sizes
sizes_append [] fs = omega arith
sizes_append (e ∷ es) fs = omega (arith, sizes_append es fs)

module _ (s : List ℕ) (c : ℕ) (h : get_or s 0 0 ≡ c) where
  size_none : (a b : Bool) → eqb c 0 ≡ a → eqb c 1 ≡ b → c ≤ 2 → size_of (build s []) ≡ head_size c + 0
  unfolding size_of head_size
  size_none true b e f l = rw (build-literal s c h [] (eqb-true c 0 e), e)
  size_none false true e f l = rw (build-matched s c h [] (eqb-true c 1 f), e, le-leb c 2 l)
  size_none false false e f l = rw (build-variable s c h [] (two_left c l (eqb-false c 0 e) (eqb-false c 1 f)), e, le-leb c 2 l)

  size_one : (a : Bool) (x : Exp) → eqb c 3 ≡ a → 3 ≤ c → c ≤ 5 → size_of (build s (x ∷ [])) ≡ head_size c + (size_of x + 0)
  unfolding size_of head_size
  size_one true x e l m = rw (build-cast s c h x (eqb-true c 3 e), ne_eqb c 0 (λ i. omega arith), lt-leb c 2 l, e) (omega arith)
  size_one false x e l m = rw (build_one s c h x (four_up c l (eqb-false c 3 e)) m, ne_eqb c 0 (λ i. omega arith), lt-leb c 2 l, e) (omega arith)

  size_two : (x y : Exp) → 6 ≤ c → c ≤ 27 → size_of (build s (x ∷ y ∷ [])) ≡ head_size c + (size_of x + (size_of y + 0))
  unfolding size_of head_size
  size_two x y l m = rw (build_two s c h x y l m, ne_eqb c 0 (λ i. omega arith), lt-leb c 2 (omega arith), ne_eqb c 3 (λ i. omega arith)) (omega arith)

  size_if : (x y z : Exp) → 28 ≤ c → size_of (build s (x ∷ y ∷ z ∷ [])) ≡ head_size c + (size_of x + (size_of y + (size_of z + 0)))
  unfolding size_of head_size
  size_if x y z l = rw (build-if s c h x y z l, ne_eqb c 0 (λ i. omega arith), lt-leb c 2 (omega arith), ne_eqb c 3 (λ i. omega arith)) (omega arith)

  size_built : (es : List Exp) → length es ≡ operands c → size_of (build s es) ≡ head_size c + sizes es
  unfolding sizes
  size_built [] e = size_none (eqb c 0) (eqb c 1) refl refl (no_operand c (sym e))
  size_built (x ∷ []) e = let r = one_operand c (sym e) in size_one (eqb c 3) x refl r.0 r.1
  size_built (x ∷ y ∷ []) e = let r = two_operands c (sym e) in size_two x y r.0 r.1
  size_built (x ∷ y ∷ z ∷ []) e = size_if x y z (three_operands c (sym e))
  size_built (x ∷ y ∷ z ∷ w ∷ es) e = absurd (omega (arith, at_most_three c))

sum_many : (f : List ℕ → Read Exp) → ((u : List ℕ) → All (λ e n. size_of e ≡ n) (f u)) → (k : ℕ) (s : List ℕ) → All (λ es m. sizes es ≡ m) (read_many f k s)
unfolding sizes
sum_many f g = all_many f (λ k s es m. sizes es ≡ m) (λ s. refl) (λ k s a n es m e h. omega (arith, h, all_got (λ e n. size_of e ≡ n) (g s) e))

size-got :
    (s : List ℕ) (c : ℕ) (b : Bool) (r : Read (List Exp)) → get_or s 0 0 ≡ c → All (λ es n. length es ≡ operands c) r → All (λ es n. sizes es ≡ n) r →
    All (λ e n. size_of e ≡ n) (provided b (headed (build s) (head_size c) r))
unfolding All after provided
size-got s c false r h l m = tt
size-got s c true bad h l m = tt
size-got s c true (got es n) h l m = size_built s c h es l ∙ rw m

size_at : (d : ℕ) (s : List ℕ) → All (λ e n. size_of e ≡ n) (read_exp d s)
unfolding All read_exp
size_at zero s = tt
size_at (suc d) s =
    let c = get_or s 0 0 in
    let f : List ℕ → Read Exp = λ u. read_exp d u in
    size-got s c (head_fits s) (read_many f (operands c) (drop (head_size c) s)) refl (sized f (operands c) (drop (head_size c) s)) (sum_many f (size_at d) (operands c) (drop (head_size c) s))

-- the bytes that an expression takes are its size
pub size_is : (s : List ℕ) {e : Exp} {n : ℕ} → expression s ≡ got e n → size_of e ≡ n
unfolding expression
size_is s x = all_got (λ e n. size_of e ≡ n) (size_at (length s) s) x
