-- The operands of an expression that keeps the limits, read one after another by a call at its offset.
-- Assumes nothing.
use mathlib.Core.Path.{◌≡◌, refl, sym, ap, ◌∙◌}
use mathlib.Core.Bool.{true}
use mathlib.Core.Logic.{◌⊎◌, inl, inr}
use mathlib.Core.List.{List, [], ◌∷◌, ◌++◌, append-nil, append_assoc}
use Prim.Native.Nat.{ℕ, zero, suc, ◌+◌, ◌-◌, ◌≤◌, ◌<◌}
use native.Mathlib.Omega.{arith}
use lib.ListN.{get_or, drop, length, length-append, length-drop}
use Rattle.model.specs.Expressions.{Exp, got, head_size, operands, head_fits, expression}
use Rattle.model.proofs.Tests.{and_left, and_right}
use Rattle.expressions.specs.Reading.{precise_head, shallow, fits_at}
use Rattle.expressions.proofs.Heads.{head_at, fits_whole}
use Rattle.expressions.proofs.Depths.{all_shallow, all_got, bounded}
use Rattle.expressions.proofs.Shapes.{at_most_three}
use Rattle.expressions.proofs.Parts.{Run, none, more, Parts, parts}

-- ── the call ─────────────────────────────────────────────────────────────────────────────────

-- the expression at an offset keeps the limits; c is its code, k how many operands follow
pub record Call : Type 0 where
  pub s : List ℕ
  pub at : ℕ
  pub depth : ℕ
  pub c : ℕ
  pub k : ℕ
  pub head : c ≡ get_or s at 0
  pub count : k ≡ operands c
  pub inside : at ≤ length s
  pub fits : fits_at depth (expression (drop at s)) ≡ true

abbrev pub call : (s : List ℕ) (at depth : ℕ) {c k : ℕ} → c ≡ get_or s at 0 → k ≡ operands c → at ≤ length s → fits_at depth (expression (drop at s)) ≡ true → Call
call s at depth {c} {k} e n l f = record { s = s; at = at; depth = depth; c = c; k = k; head = e; count = n; inside = l; fits = f }

run_length : {s : List ℕ} {k at end : ℕ} {es : List Exp} → Run s k at es end → length es ≡ k
run_length none = refl
run_length (more x r) = ap suc (run_length r)

module _ (x : Call) where
  pub there : get_or (drop x.at x.s) 0 0 ≡ x.c
  there = head_at x.at x.s ∙ sym x.head

  pub all : Parts x.s x.at x.depth x.c
  all = parts x.s x.at x.c there x.depth x.fits

  pub count_all : length all.es ≡ operands x.c
  count_all = run_length all.run

  abbrev pub end : ℕ
  end = x.at + all.size

  pub deep : 1 ≤ x.depth
  deep = all.deep

  pub whole : head_fits (drop x.at x.s) ≡ true
  whole = all.whole

  pub precise : precise_head (drop x.at x.s) ≡ true
  precise = all.precise

  pub no_operands : x.k ≡ 0 → operands (get_or x.s x.at 0) ≡ 0
  no_operands e = rw (sym x.head) (sym x.count ∙ e)

  pub head_inside : x.at + head_size x.c ≤ length x.s
  head_inside = fits_whole x.s x.at x.c x.head whole

-- how many are left, as the tests on k give it
pub two_up : (k : ℕ) → (k ≡ 0 → ⊥) → (k ≡ 1 → ⊥) → 0 < k - 1
two_up zero o e = absurd (o refl)
two_up (suc zero) o e = absurd (e refl)
two_up (suc (suc k)) o e = omega arith

pub two_or_three : (x : Call) → 0 < x.k - 1 → (x.k ≡ 2) ⊎ (x.k ≡ 3)
two_or_three x l = go x.k l (omega (arith, at_most_three x.c, x.count))
  where
    go : (k : ℕ) → 0 < k - 1 → k ≤ 3 → (k ≡ 2) ⊎ (k ≡ 3)
    go zero l m = absurd (omega arith)
    go (suc zero) l m = absurd (omega arith)
    go (suc (suc zero)) l m = inl refl
    go (suc (suc (suc k))) l m = inr (omega arith)

pub three_is : (x : Call) → 0 < x.k - 1 → (x.k ≡ 2 → ⊥) → x.k ≡ 3
three_is x l e = go (two_or_three x l)
  where
    go : ((x.k ≡ 2) ⊎ (x.k ≡ 3)) → x.k ≡ 3
    go (inl q) = absurd (e q)
    go (inr q) = q

-- ── one after another ────────────────────────────────────────────────────────────────────────

-- the operands done stand before at, and k more from at on
pub record Reached (x : Call) (done : List Exp) (k at : ℕ) : Type 0 where
  pub rest : List Exp
  pub these : (all x).es ≡ done ++ rest
  pub run : Run x.s k at rest (end x)
  pub shallower : all_shallow (x.depth - 1) rest ≡ true
  pub inside : at ≤ length x.s

-- the next operand, and what is reached after it
pub record Next (x : Call) (done : List Exp) (k at : ℕ) : Type 0 where
  pub e : Exp
  pub n : ℕ
  pub read : expression (drop at x.s) ≡ got e n
  pub fits : fits_at (x.depth - 1) (expression (drop at x.s)) ≡ true
  pub inside : at ≤ length x.s
  pub onward : Reached x (done ++ (e ∷ [])) (k - 1) (at + n)

taken_within : (s : List ℕ) (at : ℕ) {e : Exp} {n : ℕ} → at ≤ length s → expression (drop at s) ≡ got e n → at + n ≤ length s
taken_within s at l x = omega (arith, all_got (λ e n. (1 ≤ n) × (n ≤ length (drop at s))) (bounded (drop at s)) x, length-drop at s)

run_end : {s : List ℕ} {k at end : ℕ} {es : List Exp} → Run s k at es end → k ≡ 0 → (es ≡ []) × (end ≡ at)
run_end none e = (refl, refl)
run_end (more x r) e = absurd (omega arith)

run-same : {s : List ℕ} {es : List Exp} {end k j at to : ℕ} → k ≡ j → at ≡ to → Run s j to es end → Run s k at es end
run-same e f r = rw (e, f) r

-- none is done behind the head, of h bytes
pub begin : (x : Call) {h : ℕ} → h ≡ head_size x.c → Reached x [] x.k (x.at + h)
begin x e =
    record {
      rest = (all x).es;
      these = refl;
      run = run-same x.count (ap (λ (i : ℕ). x.at + i) e) (all x).run;
      shallower = (all x).shallower;
      inside = rw e (head_inside x);
    }

module _ {x : Call} {done : List Exp} {k at : ℕ} (r : Reached x done k at) where
  pub next : 0 < k → Next x done k at
  unfolding fits_at all_shallow
  next l = go r.run l r.these r.shallower r.inside
    where
      d : ℕ
      d = x.depth - 1

      go : {k at : ℕ} {es : List Exp} → Run x.s k at es (end x) → 0 < k → (all x).es ≡ done ++ es → all_shallow (x.depth - 1) es ≡ true → at ≤ length x.s → Next x done k at
      go none l t h i = absurd (omega arith)
      go (more {k = j} {at = at} {n = n} {e = e} {es = es} y r) l t h i =
          let q : suc j - 1 ≡ j = omega arith in
          record {
            e = e;
            n = n;
            read = y;
            fits = rw y (and_left (shallow d e) (all_shallow d es) h);
            inside = i;
            onward = record {
              rest = es;
              these = t ∙ sym (append_assoc done (e ∷ []) es);
              run = run-same q refl r;
              shallower = and_right (shallow d e) (all_shallow d es) h;
              inside = taken_within x.s at i y;
            };
          }

  pub counted : length done + k ≡ operands x.c
  counted = omega (arith, count_all x, ap length r.these, length-append done r.rest, run_length r.run)

  pub last : k ≡ 0 → ((all x).es ≡ done) × (end x ≡ at)
  last e = let w = run_end r.run e in (r.these ∙ rw w.0 (append-nil done), w.1)
