-- What is read one after another, the first taken off; and the types of a table, the first taken off.
-- Assumes nothing.
use mathlib.Core.Path.{◌≡◌, refl, sym, ap, ◌∙◌}
use mathlib.Core.Bool.{Bool, true, false}
use mathlib.Core.List.{List, ◌∷◌}
use Prim.Native.Nat.{ℕ, zero, suc, ◌+◌, ◌-◌, ◌*◌, ◌<◌}
use native.Mathlib.Omega.{arith}
use lib.ListN.{drop}
use lib.Seq.{drop-drop}
use Rattle.std.specs.Prelude.{Some}
use Rattle.model.specs.declared.Ty.{Ty}
use Rattle.model.specs.Expressions.{Read, bad, got, after, read_many, provided, type_at}
use Rattle.model.specs.NetworkFile.{tabulate}
use Rattle.expressions.specs.Reading.{end_from, is_read}
use Rattle.shapes.specs.Shapes.{types_in}
use Rattle.shapes.proofs.Laws.{tabulate-same}
use Rattle.rules.proofs.Laying.{Found, found}
use Rattle.typing.specs.Fits.{list_read}

-- m types of a table from k on
unfoldable pub types_from : List ℕ → ℕ → ℕ → List Ty
types_from t k m = tabulate m (λ j. type_at t (2 * (k + j)))

pub types_all : (t : List ℕ) (n : ℕ) → types_in t n ≡ types_from t 0 n
unfolding types_in types_from
types_all t n = tabulate-same n (λ j. type_at t (2 * j)) (λ j. type_at t (2 * (0 + j))) (λ j h. ap (type_at t) (omega arith))

pub types_more : (t : List ℕ) (k n : ℕ) → k < n → types_from t k (n - k) ≡ type_at t (2 * k) ∷ types_from t (k + 1) (n - (k + 1))
unfolding types_from tabulate
types_more t k n h = let e : n - k ≡ suc (n - (k + 1)) = omega arith in ap (types_from t k) e ∙ go (n - (k + 1))
  where
    first : 2 * (k + 0) ≡ 2 * k
    first = omega arith

    go : (m : ℕ) → types_from t k (suc m) ≡ type_at t (2 * k) ∷ types_from t (k + 1) m
    go m = λ i. ap (type_at t) first i ∷ tabulate-same m (λ j. type_at t (2 * (k + suc j))) (λ j. type_at t (2 * (k + 1 + j))) (λ j l. ap (type_at t) (omega arith)) i

pub record Peel {A : Type 0} (f : List ℕ → Read A) (b : List ℕ) (k at end : ℕ) : Type 0 where
  pub first : Found (f (drop at b)) at end
  pub rest : is_read (read_many f (k - 1) (drop end b)) ≡ true
  pub list : list_read (read_many f k (drop at b)) ≡ first.thing ∷ list_read (read_many f (k - 1) (drop end b))

-- with the offset after the first
pub record Peeled {A : Type 0} (f : List ℕ → Read A) (b : List ℕ) (k at : ℕ) : Type 0 where
  pub end : ℕ
  pub peeled : Peel f b k at end

module _ {A : Type 0} (f : List ℕ → Read A) (b : List ℕ) where
  pub many_is : (k at end : ℕ) (x : Found (f (drop at b)) at end) → read_many f (suc k) (drop at b) ≡ after (read_many f k (drop end b)) (λ rest m. got (x.thing ∷ rest) (x.size + m))
  unfolding read_many after
  many_is k at end x = rw (x.read, drop-drop x.size at b, x.ends)

  rest_read : (x : A) (n : ℕ) (r : Read (List A)) → is_read (after r (λ rest m. got (x ∷ rest) (n + m))) ≡ is_read r
  unfolding is_read after
  rest_read x n bad = refl
  rest_read x n (got xs m) = refl

  rest_list : (x : A) (n : ℕ) (r : Read (List A)) → is_read r ≡ true → list_read (after r (λ rest m. got (x ∷ rest) (n + m))) ≡ x ∷ list_read r
  unfolding is_read list_read after
  rest_list x n bad e = cc
  rest_list x n (got xs m) e = refl

  peel_suc : (k at end : ℕ) → is_read (read_many f (suc k) (drop at b)) ≡ true → Found (f (drop at b)) at end → Peel f b (suc k) at end
  peel_suc k at end e x =
      let q : k ≡ suc k - 1 = omega arith in
      let r = read_many f k (drop end b) in
      let g : is_read r ≡ true = sym (ap is_read (many_is k at end x) ∙ rest_read x.thing x.size r) ∙ e in
      record {
        first = x;
        rest = ap (λ (j : ℕ). is_read (read_many f j (drop end b))) (sym q) ∙ g;
        list = ap list_read (many_is k at end x) ∙ rest_list x.thing x.size r g ∙ ap (λ (j : ℕ). x.thing ∷ list_read (read_many f j (drop end b))) q;
      }

  pub peel : (k at end : ℕ) → 0 < k → is_read (read_many f k (drop at b)) ≡ true → end_from at (f (drop at b)) ≡ Some end → Peel f b k at end
  peel zero at end l e g = absurd (omega arith)
  peel (suc k) at end l e g = peel_suc k at end e (found (f (drop at b)) at end g)

  there_go : (k at : ℕ) (r : Read A) → f (drop at b) ≡ r → is_read (read_many f (suc k) (drop at b)) ≡ true → Peeled f b (suc k) at
  unfolding read_many after is_read
  there_go k at bad q e = let z : ◌≡◌ {A = Bool} false true = rw q at e in cc
  there_go k at (got x n) q e = record { end = at + n; peeled = peel_suc k at (at + n) e (record { thing = x; size = n; read = q; ends = refl }) }

  pub there : (k at : ℕ) → 0 < k → is_read (read_many f k (drop at b)) ≡ true → Peeled f b k at
  there zero at l e = absurd (omega arith)
  there (suc k) at l e = there_go k at (f (drop at b)) refl e

  pub first_read : (k at : ℕ) → 0 < k → is_read (read_many f k (drop at b)) ≡ true → is_read (f (drop at b)) ≡ true
  unfolding is_read
  first_read k at l e = rw (there k at l e).peeled.first.read

-- what one reader finds, another that knows more finds too
module _ {A : Type 0} (f g : List ℕ → Read A) (same : (s : List ℕ) → is_read (f s) ≡ true → g s ≡ f s) where
  wider_go : (k : ℕ) (s : List ℕ) (r : Read A) → f s ≡ r → ((u : List ℕ) → is_read (read_many f k u) ≡ true → read_many g k u ≡ read_many f k u)
      → is_read (after r (λ a n. after (read_many f k (drop n s)) (λ rest m. got (a ∷ rest) (n + m)))) ≡ true
      → after (g s) (λ a n. after (read_many g k (drop n s)) (λ rest m. got (a ∷ rest) (n + m))) ≡ after r (λ a n. after (read_many f k (drop n s)) (λ rest m. got (a ∷ rest) (n + m)))
  unfolding after is_read
  wider_go k s bad q h e = cc
  wider_go k s (got a n) q h e =
      let first : g s ≡ got a n = same s (rw q) ∙ q in
      let rest : is_read (read_many f k (drop n s)) ≡ true = sym (rest_read f s a n (read_many f k (drop n s))) ∙ e in
      rw (first, h (drop n s) rest)

  pub wider : (k : ℕ) (s : List ℕ) → is_read (read_many f k s) ≡ true → read_many g k s ≡ read_many f k s
  unfolding read_many
  wider zero s e = refl
  wider (suc k) s e = wider_go k s (f s) refl (wider k) e

pub is_provided : {A : Type 0} (t : Bool) (r : Read A) → is_read (provided t r) ≡ true → t ≡ true
unfolding is_read provided
is_provided true r e = refl
is_provided false r e = cc
