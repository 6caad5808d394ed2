-- Reading an expression: one step of it, the same for every bound that its bytes do not pass, and its size.
-- Assumes nothing.
use mathlib.Core.Path.{◌≡◌, refl, sym, ap, ◌∙◌}
use mathlib.Core.Bool.{Bool, true, false, cond}
use mathlib.Core.List.{List, ◌∷◌}
use Prim.Native.Nat.{ℕ, zero, suc, ◌+◌, ◌-◌, ◌≤◌, ◌<◌}
use native.Mathlib.Omega.{arith}
use lib.Dec.{leb, eqb}
use lib.ListN.{get_or, drop, length, length-drop}
use lib.Seq.{drop-drop}
use borrow.Author.Tests.{le-ltb}
use Rattle.std.specs.Prelude.{Option, Some, None, option_and_then}
use Rattle.model.specs.Expressions.{Exp, Read, bad, got, after, read_many, head_size, operands, head_fits, build, provided, read_exp, expression}
use Rattle.expressions.specs.Reading.{end_from, is_read, skip_to}

-- ── the head ─────────────────────────────────────────────────────────────────────────────────

pub head_pos : (c : ℕ) → 1 ≤ head_size c
unfolding head_size
head_pos c = go (eqb c 0) (leb c 2) (eqb c 3)
  where
    go : (x y z : Bool) → 1 ≤ cond x 7 (cond y 2 (cond z 3 1))
    go true y z = omega arith
    go false true z = omega arith
    go false false true = omega arith
    go false false false = omega arith

pub no_head : (s : List ℕ) → length s ≡ 0 → head_fits s ≡ false
unfolding head_fits
no_head s e = rw (le-ltb 0 (length s) (omega arith))

-- ── many, one after another ──────────────────────────────────────────────────────────────────

-- one thing before the others; and the others read behind it
abbrev pub joined : {A : Type 0} → A → ℕ → Read (List A) → Read (List A)
joined a n r = after r (λ rest m. got (a ∷ rest) (n + m))

abbrev pub others : {A : Type 0} → (List ℕ → Read A) → ℕ → List ℕ → Read A → Read (List A)
others f k s r = after r (λ a n. joined a n (read_many f k (drop n s)))

-- what is made of them behind a head of h bytes
abbrev pub headed : (List Exp → Exp) → ℕ → Read (List Exp) → Read Exp
headed f h r = after r (λ es n. got (f es) (h + n))

after_cong : {A B : Type 0} (r : Read A) (f g : A → ℕ → Read B) → ((a : A) (n : ℕ) → f a n ≡ g a n) → after r f ≡ after r g
unfolding after
after_cong bad f g h = refl
after_cong (got a n) f g h = h a n

pub many_cong : (f g : List ℕ → Read Exp) (k l : ℕ) (s : List ℕ) → ((u : List ℕ) → length u ≤ l → f u ≡ g u) → length s ≤ l → read_many f k s ≡ read_many g k s
unfolding read_many
many_cong f g zero l s h b = refl
many_cong f g (suc k) l s h b =
    rw (h s b)
    (after_cong (g s) _ _ (λ a n. ap (λ (q : Read (List Exp)). joined a n q) (many_cong f g k l (drop n s) h (omega (arith, length-drop n s)))))

-- ── the bound does not matter ────────────────────────────────────────────────────────────────

-- what stands behind a head
abbrev pub behind : (List ℕ → Read Exp) → List ℕ → Read Exp
behind f s = headed (build s) (head_size (get_or s 0 0)) (read_many f (operands (get_or s 0 0)) (drop (head_size (get_or s 0 0)) s))

behind_cong : (f g : List ℕ → Read Exp) (l : ℕ) (s : List ℕ) → ((u : List ℕ) → length u ≤ l → f u ≡ g u) → length s ≤ suc l → behind f s ≡ behind g s
behind_cong f g l s h b =
    ap (λ (q : Read (List Exp)). headed (build s) (head_size (get_or s 0 0)) q)
    (many_cong f g (operands (get_or s 0 0)) l (drop (head_size (get_or s 0 0)) s) h (omega (arith, length-drop (head_size (get_or s 0 0)) s, head_pos (get_or s 0 0))))

one_more : (d : ℕ) (s : List ℕ) → length s ≤ d → read_exp (suc d) s ≡ read_exp d s
unfolding read_exp provided
one_more zero s h = rw (no_head s (omega arith))
one_more (suc d) s h = ap (provided (head_fits s)) (behind_cong (λ u. read_exp (suc d) u) (λ u. read_exp d u) d s (one_more d) h)

pub enough : (k d : ℕ) (s : List ℕ) → d ≡ k + length s → read_exp d s ≡ expression s
unfolding expression
enough zero d s e = ap (λ (x : ℕ). read_exp x s) (e ∙ omega arith)
enough (suc k) zero s e = absurd (omega arith)
enough (suc k) (suc d) s e = one_more d s (omega arith) ∙ enough k d s (omega arith)

open_at : (l : ℕ) (s : List ℕ) → length s ≡ l → read_exp l s ≡ provided (head_fits s) (behind expression s)
unfolding read_exp provided
open_at zero s e = rw (no_head s e)
open_at (suc l) s e = ap (provided (head_fits s)) (behind_cong (λ u. read_exp l u) expression l s (λ u h. enough (l - length u) l u (omega arith)) (omega arith))

-- one step of reading
pub open-exp : (s : List ℕ) → expression s ≡ provided (head_fits s) (behind expression s)
unfolding expression
open-exp s = open_at (length s) s refl

pub no_exp : (s : List ℕ) → head_fits s ≡ false → expression s ≡ bad
unfolding provided
no_exp s e = open-exp s ∙ rw e

pub some_exp : (s : List ℕ) → head_fits s ≡ true → expression s ≡ behind expression s
unfolding provided
some_exp s e = open-exp s ∙ rw e

-- ── size ─────────────────────────────────────────────────────────────────────────────────────

abbrev onward : Option ℕ → (ℕ → Option ℕ) → Option ℕ  -- go on from an end
onward end f = option_and_then f end

-- the end of k expressions from an offset on
unfoldable pub ends : ℕ → ℕ → List ℕ → Option ℕ
ends k at s = end_from at (read_many expression k (drop at s))

module _ (s : List ℕ) where
  end_got : (r : Read (List Exp)) (a : Exp) (at n : ℕ) → end_from at (joined a n r) ≡ end_from (at + n) r
  unfolding end_from after
  end_got bad a at n = refl
  end_got (got es m) a at n = ap Some (omega arith)

  ends_go : (k at : ℕ) (r : Read Exp) → end_from at (others expression k (drop at s) r) ≡ onward (end_from at r) (λ to. ends k to s)
  unfolding end_from ends after
  ends_go k at bad = refl
  ends_go k at (got a n) = rw (drop-drop n at s) (end_got (read_many expression k (drop (at + n) s)) a at n)

  ends_one : (k at : ℕ) → ends (suc k) at s ≡ onward (end_from at (expression (drop at s))) (λ to. ends k to s)
  unfolding ends read_many
  ends_one k at = ends_go k at (expression (drop at s))

  onward_onward : (r : Option ℕ) (f g : ℕ → Option ℕ) → onward r (λ n. onward (f n) g) ≡ onward (onward r f) g
  onward_onward None f g = refl
  onward_onward (Some n) f g = refl

  onward_cong : (r : Option ℕ) (f g : ℕ → Option ℕ) → ((n : ℕ) → f n ≡ g n) → onward r f ≡ onward r g
  onward_cong None f g h = refl
  onward_cong (Some n) f g h = h n

  ends_add : (k p at : ℕ) → ends (k + p) at s ≡ onward (ends k at s) (λ to. ends p to s)
  unfolding ends end_from read_many
  ends_add zero p at =
      let e : 0 + p ≡ p = omega arith in
      let f : at ≡ at + 0 = omega arith in
      ap (λ (x : ℕ). ends x at s) e ∙ ap (λ (x : ℕ). ends p x s) f
  ends_add (suc k) p at =
      let e : suc k + p ≡ suc (k + p) = omega arith in
      ap (λ (x : ℕ). ends x at s) e
      ∙ ends_one (k + p) at
      ∙ onward_cong (end_from at (expression (drop at s))) (λ to. ends (k + p) to s) (λ to. onward (ends k to s) (λ to. ends p to s)) (ends_add k p)
      ∙ onward_onward (end_from at (expression (drop at s))) (λ to. ends k to s) (λ to. ends p to s)
      ∙ ap (λ (r : Option ℕ). onward r (λ to. ends p to s)) (sym (ends_one k at))

  end_built : (r : Read (List Exp)) (f : List Exp → Exp) (at h : ℕ) → end_from at (headed f h r) ≡ end_from (at + h) r
  unfolding end_from after
  end_built bad f at h = refl
  end_built (got es m) f at h = ap Some (omega arith)

  end_exp : (at c : ℕ) → head_fits (drop at s) ≡ true → get_or (drop at s) 0 0 ≡ c → end_from at (expression (drop at s)) ≡ ends (operands c) (at + head_size c) s
  unfolding ends
  end_exp at c e f =
      ap (end_from at) (some_exp (drop at s) e)
      ∙ end_built (read_many expression (operands (get_or (drop at s) 0 0)) (drop (head_size (get_or (drop at s) 0 0)) (drop at s))) (build (drop at s)) at (head_size (get_or (drop at s) 0 0))
      ∙ rw (f, drop-drop (head_size c) at s)

  -- a turn of the walk: the head's operands come before what was pending
  pub ends_turn : (p at c : ℕ) → head_fits (drop at s) ≡ true → get_or (drop at s) 0 0 ≡ c → ends (suc p) at s ≡ ends (p + operands c) (at + head_size c) s
  ends_turn p at c e f =
      let x : operands c + p ≡ p + operands c = omega arith in
      ends_one p at
      ∙ ap (λ (r : Option ℕ). onward r (λ to. ends p to s)) (end_exp at c e f)
      ∙ sym (ends_add (operands c) p (at + head_size c))
      ∙ ap (λ (k : ℕ). ends k (at + head_size c) s) x

  pub ends_bad : (p at : ℕ) → head_fits (drop at s) ≡ false → ends (suc p) at s ≡ None
  unfolding end_from
  ends_bad p at e = ends_one p at ∙ rw (no_exp (drop at s) e)

  pub ends_none : (at : ℕ) → ends 0 at s ≡ Some at
  unfolding ends end_from read_many
  ends_none at = ap Some (omega arith)

  whole_go : (at : ℕ) (r : Read Exp) → onward (end_from at r) (λ to. ends 0 to s) ≡ end_from at r
  unfolding end_from
  whole_go at bad = refl
  whole_go at (got e n) = ends_none (at + n)

  pub ends_whole : (at : ℕ) → ends 1 at s ≡ end_from at (expression (drop at s))
  ends_whole at = ends_one 0 at ∙ whole_go at (expression (drop at s))

  pub turn : (p at c : ℕ) → 0 < p → head_fits (drop at s) ≡ true → get_or (drop at s) 0 0 ≡ c → ends p at s ≡ ends (p - 1 + operands c) (at + head_size c) s
  turn zero at c l e f = absurd (omega arith)
  turn (suc p) at c l e f =
      let x : p + operands c ≡ suc p - 1 + operands c = omega arith in
      ends_turn p at c e f ∙ ap (λ (k : ℕ). ends k (at + head_size c) s) x

  pub halt : (p at : ℕ) → 0 < p → head_fits (drop at s) ≡ false → ends p at s ≡ None
  halt zero at l e = absurd (omega arith)
  halt (suc p) at l e = ends_bad p at e

  pub done : (p at : ℕ) → p ≤ 0 → ends p at s ≡ Some at
  done zero at l = ends_none at
  done (suc p) at l = absurd (omega arith)

  -- where p expressions end at e, the first has a head
  pub goes_on : (p at e : ℕ) → 0 < p → ends p at s ≡ Some e → head_fits (drop at s) ≡ true
  goes_on p at e l h = by_head (head_fits (drop at s)) refl
    where
      by_head : (b : Bool) → head_fits (drop at s) ≡ b → head_fits (drop at s) ≡ true
      by_head true g = g
      by_head false g = let z : None ≡ Some e = sym (halt p at l g) ∙ h in absurd cc

-- what is there ends where it is skipped to
pub skip_is : {A : Type 0} (at : ℕ) (r : Read A) → is_read r ≡ true → end_from at r ≡ Some (skip_to at r)
unfolding end_from is_read skip_to
skip_is at bad e = absurd cc
skip_is at (got a n) e = refl
