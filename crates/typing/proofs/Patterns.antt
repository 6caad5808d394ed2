-- Patterns and the types that they fit.
-- Assumes nothing.
use mathlib.Core.Path.{◌≡◌, refl, sym, ap, ◌∙◌}
use mathlib.Core.Bool.{Bool, true, false, cond, ◌&&◌, ◌||◌}
use mathlib.Core.List.{List, [], ◌∷◌}
use Prim.Native.Nat.{ℕ, zero, suc, ◌+◌, ◌-◌, ◌*◌, ◌≤◌, ◌<◌}
use native.Mathlib.Omega.{arith}
use lib.Dec.{leb, ltb, eqb}
use lib.IntN.{ℤ}
use lib.ListN.{get_or, drop, length, set, length-set, get_or-eq_default}
use lib.Seq.{get_or-set_same, get_or-set_other}
use borrow.Author.Count.{below_more}
use borrow.Author.Tests.{le-leb, lt-leb, ltb-true, ltb-false, ne_eqb, leb-true}
use Rattle.model.specs.declared.Ty.{Ty}
use Rattle.model.specs.Bytes.{value_at}
use Rattle.model.specs.Values.{no_type, is_dc, carried, in_precision, within}
use Rattle.model.specs.Expressions.{Read, got, read_many, provided, type_at}
use Rattle.model.specs.NetworkFile.{tabulate}
use Rattle.model.specs.Rules.{Pattern, any, only, pattern_of, pattern_size, input_code, variable_code, read_pattern, Fit, fits, also, fit_if, tag_fits, pattern_fits, size_of_pattern, patterns_fit, matched_type, matched_types}
use Rattle.model.proofs.Tests.{and_left, and_right, and₃}
use Rattle.expressions.specs.Reading.{end_from, is_read, skip_to}
use Rattle.expressions.proofs.Heads.{head_at}
use Rattle.octets.proofs.Laws.{value_drop}
use Rattle.shapes.specs.Shapes.{types_in}
use Rattle.types.specs.Scopes.{scope_in}
use Rattle.rules.specs.Bodies.{pattern_codes, any_code, patterns_from}
use Rattle.rules.proofs.Ends.{pattern_none, pattern_there, pattern_skip, pattern_whole_there}
use Rattle.typing.specs.Fits.{fitting_of, list_read, tag_of, scope_read, Precise, Agree}
use Rattle.std.specs.Prelude.{Err, Some, None}
use Rattle.typing.proofs.Peeling.{types_from, types_all, types_more, Peel, peel, there, first_read, wider, is_provided}

-- ── by its code ──────────────────────────────────────────────────────────────────────────────

pub fits_zero : (t : Ty) (c : ℕ) (z : ℤ) → c ≡ 0 → true ≡ pattern_fits t (pattern_of c z)
unfolding pattern_of pattern_fits
fits_zero t c z e = rw e

pub tag_data : (c : ℕ) → 6 ≤ c → 3 ≡ tag_of c
unfolding tag_of
tag_data c h = rw (lt-leb c 2 (omega arith), lt-leb c 5 h)

-- a code from 6 on
pattern_high : (c : ℕ) (z : ℤ) → 6 ≤ c → pattern_of c z ≡ only 3 z
unfolding pattern_of
pattern_high c z h = rw (ne_eqb c 0 (λ i. omega arith), ne_eqb c 1 (λ i. omega arith), ne_eqb c 2 (λ i. omega arith), lt-leb c 5 h)

-- one with a constant, and one without
pub constant_is : (c : ℕ) (z : ℤ) → (eqb c 2 || leb 6 c) ≡ true → pattern_of c z ≡ only (tag_of c) z
unfolding pattern_of tag_of
constant_is zero z e = cc
constant_is (suc zero) z e = cc
constant_is (suc (suc zero)) z e = refl
constant_is (suc (suc (suc zero))) z e = cc
constant_is (suc (suc (suc (suc zero)))) z e = cc
constant_is (suc (suc (suc (suc (suc zero))))) z e = cc
constant_is (suc (suc (suc (suc (suc (suc c)))))) z e = let l : 6 ≤ suc (suc (suc (suc (suc (suc c))))) = omega arith in pattern_high (suc (suc (suc (suc (suc (suc c)))))) z l ∙ ap (λ (k : ℕ). only k z) (tag_data (suc (suc (suc (suc (suc (suc c)))))) l)

pub any_is : (c : ℕ) (z : ℤ) → (eqb c 2 || leb 6 c) ≡ false → (c ≡ 0 → ⊥) → pattern_of c z ≡ any (tag_of c)
unfolding pattern_of tag_of
any_is zero z e n = absurd (n refl)
any_is (suc zero) z e n = refl
any_is (suc (suc zero)) z e n = cc
any_is (suc (suc (suc zero))) z e n = refl
any_is (suc (suc (suc (suc zero)))) z e n = refl
any_is (suc (suc (suc (suc (suc zero))))) z e n = refl
any_is (suc (suc (suc (suc (suc (suc c)))))) z e n = let u : true ≡ false = rw (ne_eqb (suc (suc (suc (suc (suc (suc c)))))) 2 (λ i. omega arith), le-leb 6 (suc (suc (suc (suc (suc (suc c)))))) (omega arith)) at e in cc

fits_by : (b : Bool) (t : Ty) (c : ℕ) (z : ℤ) → (eqb c 2 || leb 6 c) ≡ b → (c ≡ 0 → ⊥) → pattern_fits t (pattern_of c z) ≡ (tag_fits t (tag_of c) && cond b (within (carried t) z) true)
unfolding pattern_fits
fits_by true t c z e n = rw (constant_is c z e)
fits_by false t c z e n = rw (any_is c z e n) (sym (and_true (tag_fits t (tag_of c))))
  where
    and_true : (b : Bool) → (b && true) ≡ b
    and_true true = refl
    and_true false = refl

module _ (t : Ty) (c : ℕ) (z : ℤ) (n : c ≡ 0 → ⊥) where
  pub fits_tag : tag_fits t (tag_of c) ≡ false → false ≡ pattern_fits t (pattern_of c z)
  fits_tag e = sym (fits_by (eqb c 2 || leb 6 c) t c z refl n ∙ rw e)

  pub fits_constant : {r : Bool} → tag_fits t (tag_of c) ≡ true → (eqb c 2 || leb 6 c) ≡ true → r ≡ within (carried t) z → r ≡ pattern_fits t (pattern_of c z)
  fits_constant e g h = h ∙ sym (fits_by true t c z g n ∙ rw e)

  pub fits_any : tag_fits t (tag_of c) ≡ true → (eqb c 2 || leb 6 c) ≡ false → true ≡ pattern_fits t (pattern_of c z)
  fits_any e g = sym (fits_by false t c z g n ∙ rw e)

-- the carried type has the precision of its wire
pub carried_p : (t : Ty) → (carried t).p ≡ t.p
unfolding carried
carried_p t = go (is_dc t)
  where
    go : (b : Bool) → (cond b (record { kind = t.kind - 2; p = t.p }) t).p ≡ t.p
    go true = refl
    go false = refl

-- ── as it is read ────────────────────────────────────────────────────────────────────────────

pub record IsPattern (known : ℕ → Bool) (s : List ℕ) (x : Pattern) (n : ℕ) : Type 0 where
  pub pattern : x ≡ pattern_of (get_or s 0 0) (value_at s 1)
  pub size : n ≡ pattern_size (get_or s 0 0)
  pub code : known (get_or s 0 0) ≡ true

read_go : (t : Bool) (y x : Pattern) (m n : ℕ) → provided t (got y m) ≡ got x n → (t ≡ true) × ((x ≡ y) × (n ≡ m))
unfolding provided
read_go true y x m n e = (refl, (cc, cc))
read_go false y x m n e = cc

pub pattern_read : (known : ℕ → Bool) (s : List ℕ) {x : Pattern} {n : ℕ} → read_pattern known s ≡ got x n → IsPattern known s x n
unfolding read_pattern
pattern_read known s {x} {n} e =
    let c = get_or s 0 0 in
    let t = ltb 0 (length s) && known c && leb (pattern_size c) (length s) in
    let r = read_go t (pattern_of c (value_at s 1)) x (pattern_size c) n e in
    record { pattern = r.1.0; size = r.1.1; code = and_right (ltb 0 (length s)) (known c) (and_left (ltb 0 (length s) && known c) (leb (pattern_size c) (length s)) r.0) }

size_known : (v : Bool) (c : ℕ) (z : ℤ) → pattern_codes v c ≡ true → size_of_pattern (pattern_of c z) ≡ pattern_size c
unfolding pattern_codes input_code variable_code pattern_of pattern_size size_of_pattern
size_known v zero z e = refl
size_known v (suc zero) z e = refl
size_known v (suc (suc zero)) z e = refl
size_known v (suc (suc (suc zero))) z e = refl
size_known v (suc (suc (suc (suc zero)))) z e = refl
size_known v (suc (suc (suc (suc (suc zero))))) z e = refl
size_known v (suc (suc (suc (suc (suc (suc zero)))))) z e = refl
size_known true (suc (suc (suc (suc (suc (suc (suc c))))))) z e = let u : false ≡ true = rw (ne_eqb (suc (suc (suc (suc (suc (suc (suc c))))))) 0 (λ i. omega arith), ne_eqb (suc (suc (suc (suc (suc (suc (suc c))))))) 2 (λ i. omega arith)) at e in cc
size_known false (suc (suc (suc (suc (suc (suc (suc c))))))) z e = let u : false ≡ true = rw (lt-leb (suc (suc (suc (suc (suc (suc (suc c))))))) 6 (omega arith)) at e in cc

pub pattern_size_lem : (v : Bool) (s : List ℕ) {x : Pattern} {n : ℕ} → read_pattern (pattern_codes v) s ≡ got x n → size_of_pattern x ≡ n
pattern_size_lem v s e =
    let r = pattern_read (pattern_codes v) s e in
    ap size_of_pattern r.pattern ∙ size_known v (get_or s 0 0) (value_at s 1) r.code ∙ sym r.size

pub pattern_inside : (v : Bool) (b : List ℕ) (at end : ℕ) → end_from at (read_pattern (pattern_codes v) (drop at b)) ≡ Some end → at < length b
pattern_inside v b at end e = go (ltb at (length b)) refl
  where
    go : (t : Bool) → ltb at (length b) ≡ t → at < length b
    go true q = ltb-true at (length b) q
    go false q = let w : None ≡ Some end = pattern_none (pattern_codes v) b at (ltb-false at (length b) q) ∙ e in cc

-- what can be a variable's can be an input's
variable_input : (c : ℕ) → pattern_codes true c ≡ true → pattern_codes false c ≡ true
unfolding pattern_codes variable_code input_code
variable_input zero e = refl
variable_input (suc zero) e = refl
variable_input (suc (suc zero)) e = refl
variable_input (suc (suc (suc c))) e = let u : false ≡ true = rw (ne_eqb (suc (suc (suc c))) 0 (λ i. omega arith), ne_eqb (suc (suc (suc c))) 2 (λ i. omega arith)) at e in cc

pattern_wider : (s : List ℕ) → is_read (read_pattern (pattern_codes true) s) ≡ true → read_pattern (pattern_codes false) s ≡ read_pattern (pattern_codes true) s
unfolding read_pattern
pattern_wider s e =
    let c = get_or s 0 0 in
    let k = and₃ (ltb 0 (length s)) (pattern_codes true c) (leb (pattern_size c) (length s)) (is_provided _ _ e) in
    rw (k.1, variable_input c k.1)

pub inputs_too : (n at : ℕ) (b : List ℕ) → is_read (patterns_from true n at b) ≡ true → patterns_from false n at b ≡ patterns_from true n at b
unfolding patterns_from
inputs_too n at b e = wider (read_pattern (pattern_codes true)) (read_pattern (pattern_codes false)) pattern_wider n (drop at b) e

-- the first of those that are there, and where it ends
module _ (v : Bool) (b : List ℕ) (k at : ℕ) (h : 0 < k) (r : is_read (patterns_from v k at b) ≡ true) where
  first : is_read (read_pattern (pattern_codes v) (drop at b)) ≡ true
  unfolding patterns_from
  first = first_read (read_pattern (pattern_codes v)) b k at h r

  pub pattern_first : is_read (read_pattern any_code (drop at b)) ≡ true
  pattern_first = pattern_there (pattern_codes v) b at first

  pub pattern_within : at < length b
  pattern_within = (pattern_whole_there b at pattern_first).0

  pub pattern_next : (end : ℕ) → end ≡ skip_to at (read_pattern any_code (drop at b)) → end_from at (read_pattern (pattern_codes v) (drop at b)) ≡ Some end
  pattern_next = pattern_skip (pattern_codes v) b at first

-- ── one after another ────────────────────────────────────────────────────────────────────────

module _ (v : Bool) (b : List ℕ) where
  -- the first pattern, at an offset of the whole body
  pub pattern_at : (at : ℕ) {x : Pattern} {n : ℕ} → read_pattern (pattern_codes v) (drop at b) ≡ got x n → x ≡ pattern_of (get_or b at 0) (value_at b (at + 1))
  pattern_at at e = (pattern_read (pattern_codes v) (drop at b) e).pattern ∙ rw (head_at at b, value_drop at b 1)

  module _ (types : List ℕ) (n : ℕ) where
    -- what is left to fit
    abbrev pub left_fit : ℕ → ℕ → Fit
    left_fit k at = patterns_fit at (types_from types k (n - k)) (list_read (patterns_from v (n - k) at b))

    fit_peeled : (k at end : ℕ) → k < n → Peel (read_pattern (pattern_codes v)) b (n - k) at end → left_fit k at ≡ also (fit_if (pattern_fits (type_at types (2 * k)) (pattern_of (get_or b at 0) (value_at b (at + 1)))) at) (left_fit (k + 1) end)
    unfolding patterns_from patterns_fit
    fit_peeled k at end h x =
        let q : n - k - 1 ≡ n - (k + 1) = omega arith in
        let g : at + size_of_pattern x.first.thing ≡ end = ap (λ (j : ℕ). at + j) (pattern_size_lem v (drop at b) x.first.read) ∙ sym x.first.ends in
        rw (x.list, types_more types k n h) (rw (g, pattern_at at x.first.read, q))

    pub fit_step : (k at end : ℕ) (t : Bool) → k < n → is_read (patterns_from v (n - k) at b) ≡ true → end_from at (read_pattern (pattern_codes v) (drop at b)) ≡ Some end → t ≡ pattern_fits (type_at types (2 * k)) (pattern_of (get_or b at 0) (value_at b (at + 1))) → left_fit k at ≡ also (fit_if t at) (left_fit (k + 1) end)
    unfolding patterns_from
    fit_step k at end t h e g r = fit_peeled k at end h (peel (read_pattern (pattern_codes v)) b (n - k) at end (omega arith) e g) ∙ ap (λ (u : Bool). also (fit_if u at) (left_fit (k + 1) end)) (sym r)

    pub read_step : (k at end : ℕ) → k < n → is_read (patterns_from v (n - k) at b) ≡ true → end_from at (read_pattern (pattern_codes v) (drop at b)) ≡ Some end → is_read (patterns_from v (n - (k + 1)) end b) ≡ true
    unfolding patterns_from
    read_step k at end h e g =
        let q : n - k - 1 ≡ n - (k + 1) = omega arith in
        ap (λ (j : ℕ). is_read (read_many (read_pattern (pattern_codes v)) j (drop end b))) (sym q) ∙ (peel (read_pattern (pattern_codes v)) b (n - k) at end (omega arith) e g).rest

    pub fit_end : (k at : ℕ) → n ≤ k → left_fit k at ≡ fits
    unfolding patterns_fit types_from tabulate patterns_from read_many list_read
    fit_end k at h = let q : n - k ≡ 0 = omega arith in rw q

pub minus_zero : (n : ℕ) → n - 0 ≡ n
minus_zero n = omega arith

pub precise_at : (types : List ℕ) (n k : ℕ) (t : Ty) → Precise types n → k < n → t ≡ type_at types (2 * k) → (1 ≤ t.p) × (t.p ≤ 30)
unfolding in_precision
precise_at types n k t h l e =
    let p = (type_at types (2 * k)).p in
    let w = h.each k l in
    let q : t.p ≡ p = ap (λ (u : Ty). u.p) e in
    (omega (arith, leb-true 1 p (and_left (leb 1 p) (leb p 30) w)), omega (arith, leb-true p 30 (and_right (leb 1 p) (leb p 30) w)))

module _ (v : Bool) (b types : List ℕ) (n : ℕ) where
  -- all of them
  abbrev pub all_fit : ℕ → Fit
  all_fit from = patterns_fit from (types_in types n) (list_read (patterns_from v n from b))

  pub fit_start : (from : ℕ) → left_fit v b types n 0 from ≡ all_fit from
  fit_start from = rw (minus_zero n, types_all types n)

  module _ (k at end : ℕ) (t : Ty) (r : Bool) (h : k < n) (e : is_read (patterns_from v (n - k) at b) ≡ true) (g : end_from at (read_pattern (pattern_codes v) (drop at b)) ≡ Some end) (q : t ≡ type_at types (2 * k)) (f : r ≡ pattern_fits t (pattern_of (get_or b at 0) (value_at b (at + 1)))) where
    fit_one : left_fit v b types n k at ≡ also (fit_if r at) (left_fit v b types n (k + 1) end)
    fit_one = fit_step v b types n k at end r h e g (f ∙ ap (λ (u : Ty). pattern_fits u (pattern_of (get_or b at 0) (value_at b (at + 1)))) q)

    pub fit_fail : r ≡ false → {w : Fit} → left_fit v b types n k at ≡ w → Err at ≡ fitting_of w
    unfolding fit_if also fitting_of
    fit_fail x {w} i = ap fitting_of (sym (ap (λ (u : Bool). also (fit_if u at) (left_fit v b types n (k + 1) end)) x) ∙ sym fit_one ∙ i)

    pub fit_more : r ≡ true → {w : Fit} → left_fit v b types n k at ≡ w → left_fit v b types n (k + 1) end ≡ w
    unfolding fit_if also
    fit_more x {w} i = sym (ap (λ (u : Bool). also (fit_if u at) (left_fit v b types n (k + 1) end)) x) ∙ sym fit_one ∙ i

-- ── matched types ────────────────────────────────────────────────────────────────────────────

matched_is : (t : Ty) (c : ℕ) (z : ℤ) → matched_type t (pattern_of c z) ≡ cond (eqb c 1 || eqb c 5) (carried t) no_type
unfolding matched_type pattern_of
matched_is t zero z = refl
matched_is t (suc zero) z = refl
matched_is t (suc (suc zero)) z = refl
matched_is t (suc (suc (suc zero))) z = refl
matched_is t (suc (suc (suc (suc zero)))) z = refl
matched_is t (suc (suc (suc (suc (suc zero))))) z = refl
matched_is t (suc (suc (suc (suc (suc (suc c)))))) z = rw (pattern_high (suc (suc (suc (suc (suc (suc c)))))) z (omega arith), ne_eqb (suc (suc (suc (suc (suc (suc c)))))) 1 (λ i. omega arith), ne_eqb (suc (suc (suc (suc (suc (suc c)))))) 5 (λ i. omega arith))

module _ (b ins : List ℕ) (n : ℕ) where
  -- what is left of the types of the matched values
  abbrev pub left_matched : ℕ → ℕ → List Ty
  left_matched j at = matched_types (types_from ins j (n - j)) (list_read (patterns_from false (n - j) at b))

  matched_peeled : (j at end : ℕ) → j < n → Peel (read_pattern (pattern_codes false)) b (n - j) at end → left_matched j at ≡ matched_type (type_at ins (2 * j)) (pattern_of (get_or b at 0) (value_at b (at + 1))) ∷ left_matched (j + 1) end
  unfolding patterns_from matched_types
  matched_peeled j at end h x =
      let q : n - j - 1 ≡ n - (j + 1) = omega arith in
      rw (x.list, types_more ins j n h) (rw (pattern_at false b at x.first.read, q))

  pub matched_step : (j k at end : ℕ) → j < n → j < k → is_read (patterns_from false (n - j) at b) ≡ true → end_from at (read_pattern (pattern_codes false) (drop at b)) ≡ Some end → get_or (left_matched j at) (k - j) no_type ≡ get_or (left_matched (j + 1) end) (k - (j + 1)) no_type
  unfolding patterns_from
  matched_step j k at end h g e r =
      let q : k - j ≡ suc (k - (j + 1)) = omega arith in
      rw (q, matched_peeled j at end h (peel (read_pattern (pattern_codes false)) b (n - j) at end (omega arith) e r))

  pub matched_last : (k at : ℕ) → k < n → is_read (patterns_from false (n - k) at b) ≡ true → get_or (left_matched k at) (k - k) no_type ≡ cond (eqb (get_or b at 0) 1 || eqb (get_or b at 0) 5) (carried (type_at ins (2 * k))) no_type
  unfolding patterns_from
  matched_last k at h e =
      let q : k - k ≡ 0 = omega arith in
      let x = there (read_pattern (pattern_codes false)) b (n - k) at (omega arith) e in
      rw (q, matched_peeled k at x.end h x.peeled) (matched_is (type_at ins (2 * k)) (get_or b at 0) (value_at b (at + 1)))

  pub matched_start : (k : ℕ) → get_or (left_matched 0 0) (k - 0) no_type ≡ get_or (matched_types (types_in ins n) (list_read (patterns_from false n 0 b))) k no_type
  matched_start k = rw (minus_zero n, minus_zero k, types_all ins n)

  module _ (j k at c : ℕ) where
    pub matched_yes : (t u : Ty) → k ≤ j → (j ≤ k) × (k < n) → is_read (patterns_from false (n - j) at b) ≡ true → c ≡ get_or b at 0 → t ≡ type_at ins (2 * k) → u ≡ carried t → (eqb c 1 || eqb c 5) ≡ true → u ≡ get_or (left_matched j at) (k - j) no_type
    matched_yes t u l h e q r s f =
        let m : k ≡ j = omega arith in
        s ∙ rw r (rw (← m) (sym (matched_last k at h.1 (rw (← m) at e) ∙ rw (← q, f))))

    pub matched_no : k ≤ j → (j ≤ k) × (k < n) → is_read (patterns_from false (n - j) at b) ≡ true → c ≡ get_or b at 0 → (eqb c 1 || eqb c 5) ≡ false → no_type ≡ get_or (left_matched j at) (k - j) no_type
    matched_no l h e q f =
        let m : k ≡ j = omega arith in
        rw (← m) (sym (matched_last k at h.1 (rw (← m) at e) ∙ rw (← q, f)))

-- no more of them than types
matched_few : (ts : List Ty) (xs : List Pattern) (k : ℕ) → length ts ≤ k → get_or (matched_types ts xs) k no_type ≡ no_type
unfolding matched_types
matched_few ts [] k h = get_or-eq_default [] no_type {n = k} (omega arith)
matched_few [] (x ∷ xs) k h = get_or-eq_default [] no_type {n = k} (omega arith)
matched_few (t ∷ ts) (x ∷ xs) zero h = absurd (omega arith)
matched_few (t ∷ ts) (x ∷ xs) (suc k) h = matched_few ts xs k (omega arith)

pub length_types : (m : ℕ) (f : ℕ → Ty) → length (tabulate m f) ≡ m
unfolding tabulate
length_types zero f = refl
length_types (suc m) f = ap suc (length_types m (λ k. f (suc k)))

pub matched_none : (t : List ℕ) (n : ℕ) (xs : List Pattern) (k : ℕ) → n ≤ k → get_or (matched_types (types_in t n) xs) k no_type ≡ no_type
unfolding types_in
matched_none t n xs k h = matched_few (tabulate n (λ k. type_at t (2 * k))) xs k (omega (arith, length_types n (λ k. type_at t (2 * k))))

pub types_none : (t : List ℕ) (n k : ℕ) → n ≤ k → get_or (types_in t n) k no_type ≡ no_type
unfolding types_in
types_none t n k h = get_or-eq_default (tabulate n (λ k. type_at t (2 * k))) no_type (omega (arith, length_types n (λ k. type_at t (2 * k))))

tabulate_at : (m : ℕ) (f : ℕ → Ty) (k : ℕ) → k < m → get_or (tabulate m f) k no_type ≡ f k
unfolding tabulate
tabulate_at zero f k h = absurd (omega arith)
tabulate_at (suc m) f zero h = refl
tabulate_at (suc m) f (suc k) h = tabulate_at m (λ j. f (suc j)) k (omega arith)

pub types_at : (t : List ℕ) (n k : ℕ) → k < n → get_or (types_in t n) k no_type ≡ type_at t (2 * k)
unfolding types_in
types_at t n k h = tabulate_at n (λ k. type_at t (2 * k)) k h

-- a type written at an offset of a table
abbrev pub put_type : List ℕ → ℕ → Ty → List ℕ
put_type ts at t = set (set ts at t.kind) (at + 1) t.p

-- it stands there, and those at other offsets stay
module _ (ts : List ℕ) (at : ℕ) (t : Ty) (h : at + 1 < length ts) where
  kind_there : get_or (put_type ts at t) at 0 ≡ t.kind
  kind_there = get_or-set_other (set ts at t.kind) (at + 1) at t.p 0 (λ e. omega arith) ∙ get_or-set_same ts at t.kind 0 (omega arith)

  p_there : get_or (put_type ts at t) (at + 1) 0 ≡ t.p
  p_there = get_or-set_same (set ts at t.kind) (at + 1) t.p 0 (simp length-set (omega arith))

  pub type_there : type_at (put_type ts at t) at ≡ t
  unfolding type_at
  type_there = λ i. record { kind = kind_there i; p = p_there i }

  byte_apart : (i : ℕ) → (i ≡ at → ⊥) → (i ≡ at + 1 → ⊥) → get_or (put_type ts at t) i 0 ≡ get_or ts i 0
  byte_apart i n m = get_or-set_other (set ts at t.kind) (at + 1) i t.p 0 m ∙ get_or-set_other ts at i t.kind 0 n

  pub type_before : (i : ℕ) → i + 1 < at → type_at (put_type ts at t) i ≡ type_at ts i
  unfolding type_at
  type_before i l = λ j. record { kind = byte_apart i (λ e. omega arith) (λ e. omega arith) j; p = byte_apart (i + 1) (λ e. omega arith) (λ e. omega arith) j }

  pub type_after : (i : ℕ) → at + 1 < i → type_at (put_type ts at t) i ≡ type_at ts i
  unfolding type_at
  type_after i l = λ j. record { kind = byte_apart i (λ e. omega arith) (λ e. omega arith) j; p = byte_apart (i + 1) (λ e. omega arith) (λ e. omega arith) j }

-- the types of an input and of a variable, written at 2 k and at 8 + 2 k
abbrev pub put_both : List ℕ → ℕ → Ty → Ty → List ℕ
put_both ts k t u = put_type (put_type ts (2 * k) t) (8 + 2 * k) u

module _ (ts : List ℕ) (k : ℕ) (t u : Ty) (h : k < 4) (l : length ts ≡ 16) where
  length_put : length (put_type ts (2 * k) t) ≡ 16
  length_put = simp length-set l

  module _ (f : ℕ → Ty) where
    pub inputs_more : ((j : ℕ) → j < k → type_at ts (2 * j) ≡ f j) → t ≡ f k → (j : ℕ) → j < k + 1 → type_at (put_both ts k t u) (2 * j) ≡ f j
    inputs_more before here =
        let size = length_put in
        below_more (λ j. type_at (put_both ts k t u) (2 * j) ≡ f j) k
        (λ j m. type_before (put_type ts (2 * k) t) (8 + 2 * k) u (omega arith) (2 * j) (omega arith) ∙ type_before ts (2 * k) t (omega arith) (2 * j) (omega arith) ∙ before j m)
        (type_before (put_type ts (2 * k) t) (8 + 2 * k) u (omega arith) (2 * k) (omega arith) ∙ type_there ts (2 * k) t (omega arith) ∙ here)

    pub variables_more : ((j : ℕ) → j < k → type_at ts (8 + 2 * j) ≡ f j) → u ≡ f k → (j : ℕ) → j < k + 1 → type_at (put_both ts k t u) (8 + 2 * j) ≡ f j
    variables_more before here =
        let size = length_put in
        below_more (λ j. type_at (put_both ts k t u) (8 + 2 * j) ≡ f j) k
        (λ j m. type_before (put_type ts (2 * k) t) (8 + 2 * k) u (omega arith) (8 + 2 * j) (omega arith) ∙ type_after ts (2 * k) t (omega arith) (8 + 2 * j) (omega arith) ∙ before j m)
        (type_there (put_type ts (2 * k) t) (8 + 2 * k) u (omega arith) ∙ here)

-- the table of types agrees with what the patterns match
module _ (ts ins vars : List ℕ) (n v : ℕ) (r : Read (List Pattern)) where
  pub scope_agree : n ≤ 4 → v ≤ 4 → ((j : ℕ) → j < 4 → type_at ts (2 * j) ≡ get_or (matched_types (types_in ins n) (list_read r)) j no_type)
      → ((j : ℕ) → j < 4 → type_at ts (8 + 2 * j) ≡ get_or (types_in vars v) j no_type) → Agree (scope_in ts) (scope_read (types_in ins n) (types_in vars v) r)
  unfolding scope_in scope_read
  scope_agree h g a b = record { ins = is; vars = vs }
    where
      is : (i : ℕ) → get_or (type_at ts 0 ∷ type_at ts 2 ∷ type_at ts 4 ∷ type_at ts 6 ∷ []) i no_type ≡ get_or (matched_types (types_in ins n) (list_read r)) i no_type
      is zero = a 0 (omega arith)
      is (suc zero) = a 1 (omega arith)
      is (suc (suc zero)) = a 2 (omega arith)
      is (suc (suc (suc zero))) = a 3 (omega arith)
      is (suc (suc (suc (suc i)))) = sym (matched_none ins n (list_read r) (suc (suc (suc (suc i)))) (omega arith))

      vs : (i : ℕ) → get_or (type_at ts 8 ∷ type_at ts 10 ∷ type_at ts 12 ∷ type_at ts 14 ∷ []) i no_type ≡ get_or (types_in vars v) i no_type
      vs zero = b 0 (omega arith)
      vs (suc zero) = b 1 (omega arith)
      vs (suc (suc zero)) = b 2 (omega arith)
      vs (suc (suc (suc zero))) = b 3 (omega arith)
      vs (suc (suc (suc (suc i)))) = sym (types_none vars v (suc (suc (suc (suc i)))) (omega arith))
