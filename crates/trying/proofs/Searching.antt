-- The search for the first rule that is not quiet, and the patterns of one rule.
-- Assumes nothing.
use mathlib.Core.Path.{◌≡◌, refl, sym, ap, ap₂, ◌∙◌}
use mathlib.Core.Bool.{Bool, true, false, cond, ◌&&◌, ◌||◌}
use mathlib.Core.List.{List, [], ◌∷◌, ◌++◌}
use Prim.Native.Nat.{ℕ, suc, ◌+◌, ◌-◌, ◌≤◌, ◌<◌}
use native.Mathlib.Nat.{sub-zero}
use native.Mathlib.Omega.{arith}
use lib.Dec.{eqb}
use lib.IntN.{ℤ}
use lib.ListN.{get_or, take, drop, length, drop_of_length-le}
use lib.Seq.{drop-cons}
use Rattle.model.specs.declared.Token.{Token}
use Rattle.std.specs.Prelude.{Result, Ok, Err, ⊤}
use Rattle.model.specs.declared.Fault.{Fault}
use Rattle.model.specs.Bytes.{value_at}
use Rattle.model.specs.Values.{Outcome, is_true}
use Rattle.model.specs.Expressions.{Env, value_of}
use Rattle.model.specs.Rules.{Pattern, ignore, pattern_of, pattern_size, patterns_size, Rule, rule_read, read_rule}
use Rattle.model.specs.Cycles.{Mark, quiet, fires, faulty, matches, attempt, guarded, chosen, or_else, first, up_from}
use Rattle.shapes.specs.declared.Arity.{Arity}
use Rattle.shapes.specs.Shapes.{types_in}
use Rattle.matching.specs.Outs.{open_from}
use Rattle.actions.specs.Acts.{faults_of, mark_or}
use Rattle.actions.proofs.Worked.{chosen_faults}
use Rattle.trying.specs.Views.{token_of, ready_from, view_env, judge_of, try_on}
use Rattle.trying.specs.Working.{Ruled, judged_as}
use Rattle.trying.proofs.Offsets.{StandsAt, ins_many, all_many, here_stands, here_next, here_guard}

-- ── one rule after another ───────────────────────────────────────────────────────────────────

module _ (f : ℕ → Mark) (n : ℕ) where
  abbrev pub from : ℕ → Mark
  from r = first f (up_from r (n - r))

  first_is : (r : ℕ) → r < n → from r ≡ or_else (f r) (from (suc r))
  unfolding first up_from
  first_is r l = let e : n - r ≡ suc (n - suc r) = omega arith in ap (λ (k : ℕ). first f (up_from r k)) e

  pub first_quiet : (r : ℕ) → r < n → f r ≡ quiet → from r ≡ from (r + 1)
  unfolding or_else
  first_quiet r l e = first_is r l ∙ rw e (ap from (omega arith))

  pub first_fires : (r : ℕ) → r < n → f r ≡ fires r → from r ≡ fires r
  unfolding or_else
  first_fires r l e = first_is r l ∙ rw e

  pub first_faulty : (r : ℕ) (m : Fault) → r < n → f r ≡ faulty m → from r ≡ faulty m
  unfolding or_else
  first_faulty r m l e = first_is r l ∙ rw e

  -- what is found from rule r on, where nothing was before it
  pub ended : (r : ℕ) (m : Mark) → from r ≡ from 0 → from r ≡ m → m ≡ first f (up_from 0 n)
  ended r m e g = sym g ∙ e ∙ ap (λ (k : ℕ). first f (up_from 0 k)) (sub-zero n)

  pub first_none : (r : ℕ) → n ≤ r → from r ≡ quiet
  unfolding first up_from
  first_none r l = let e : n - r ≡ 0 = omega arith in rw e

-- ── a judgement and the rule's number ────────────────────────────────────────────────────────

unfoldable renumber : ℕ → Mark → Mark
renumber k quiet = quiet
renumber k (fires j) = fires k
renumber k (faulty n) = faulty n

number_or : (k : ℕ) (x : Result ⊤ Fault) (m : Mark) → renumber k (mark_or x m) ≡ mark_or x (renumber k m)
unfolding renumber mark_or
number_or k (Ok u) m = refl
number_or k (Err x) m = refl

number_if : (k : ℕ) (t : Bool) (m : Mark) → renumber k (attempt t m) ≡ attempt t (renumber k m)
unfolding renumber attempt
number_if k true m = refl
number_if k false m = refl

number_guarded : (k : ℕ) (en : Env) (r : Rule) (v : Outcome) → renumber k (guarded en r 0 v) ≡ guarded en r k v
unfolding guarded renumber
number_guarded k en r (Err x) = refl
number_guarded k en r (Ok v) =
    number_if k (is_true v.value) (chosen en r 0)
    ∙ ap (attempt (is_true v.value))
    (ap (renumber k) (chosen_faults en r 0) ∙ number_or k (faults_of en r.outs) _ ∙ ap (mark_or (faults_of en r.outs)) (number_or k (faults_of en r.sets) (fires 0)) ∙ sym (chosen_faults en r k))

module _ (en : Env) (full : List ℕ) (r : Rule) (k : ℕ) where
  number_judged : renumber k (judge_of en full r 0) ≡ judge_of en full r k
  unfolding judge_of
  number_judged = number_if k (open_from full 0 r.outs) _ ∙ ap (attempt (open_from full 0 r.outs)) (number_guarded k en r (value_of en r.guard))

  said : (m : Mark) → judge_of en full r 0 ≡ m → judge_of en full r k ≡ renumber k m
  said m e = sym number_judged ∙ ap (renumber k) e

  by_quiet : (m : Mark) → Ok false ≡ judged_as m → renumber k m ≡ quiet
  unfolding judged_as renumber
  by_quiet quiet e = refl
  by_quiet (fires j) e = let z : ◌≡◌ {A = ℕ} 0 1 = cc in absurd (omega arith)
  by_quiet (faulty n) e = let z : ◌≡◌ {A = ℕ} 0 1 = cc in absurd (omega arith)

  by_fires : (m : Mark) → Ok true ≡ judged_as m → renumber k m ≡ fires k
  unfolding judged_as renumber
  by_fires quiet e = let z : ◌≡◌ {A = ℕ} 0 1 = cc in absurd (omega arith)
  by_fires (fires j) e = refl
  by_fires (faulty n) e = let z : ◌≡◌ {A = ℕ} 0 1 = cc in absurd (omega arith)

  by_faulty : (j : Fault) (m : Mark) → Err j ≡ judged_as m → renumber k m ≡ faulty j
  unfolding judged_as renumber
  by_faulty j quiet e = let z : ◌≡◌ {A = ℕ} 0 1 = cc in absurd (omega arith)
  by_faulty j (fires i) e = let z : ◌≡◌ {A = ℕ} 0 1 = cc in absurd (omega arith)
  by_faulty j (faulty n) e = ap faulty (cc)

pub size_small : (c : ℕ) → pattern_size c ≤ 5
unfolding pattern_size
size_small c = go (eqb c 2 || eqb c 6)
  where
    go : (t : Bool) → cond t 5 1 ≤ 5
    go true = omega arith
    go false = omega arith

-- ── the patterns of one rule ─────────────────────────────────────────────────────────────────

-- before pattern j, which begins at an offset, those before it being ready
pub record Before (f : ℕ → Token) (all : List Pattern) (j at : ℕ) : Type 0 where
  pub here : at ≡ patterns_size (take j all)
  pub left : ready_from f j (drop j all) ≡ ready_from f 0 all

pub before_first : (f : ℕ → Token) (all : List Pattern) → Before f all 0 0
unfolding patterns_size
before_first f all = record { here = refl; left = refl }

module _ (a : Arity) (ins vars b : List ℕ) (w : Ruled a ins vars b) (heads : List ℕ) (vals : List ℤ) where
  abbrev ru : Rule
  ru = rule_read (read_rule a.ins a.outs a.vars b)

  abbrev all : List Pattern
  all = ru.ins ++ ru.vars

  abbrev f : ℕ → Token
  f = token_of (length ru.ins) heads vals

  abbrev trial : List ℕ → ℕ → Mark
  trial full r = try_on (types_in ins a.ins) (types_in vars a.vars) heads full vals ru r

  module _ (j at : ℕ) (h : Before f all j at) where
    module _ (l : j < a.ins + a.vars) where
      pub stands_here : StandsAt b at (get_or all j ignore)
      stands_here = here_stands a b w.parts w.laid j at h.here l

      after : suc j ≡ j + 1
      after = omega arith

      next_is : (t : Bool) → t ≡ matches (pattern_of (get_or b at 0) (value_at b (at + 1))) (token_of a.ins heads vals j) → ready_from f 0 all ≡ (t && ready_from f (j + 1) (drop (j + 1) all))
      unfolding ready_from
      next_is t e =
          let q : matches (get_or all j ignore) (f j) ≡ t = sym (e ∙ ap₂ (λ (x : Pattern) (i : ℕ). matches x (token_of i heads vals j)) stands_here.is (sym (ins_many a b w.parts w.laid))) in
          sym h.left ∙ ap (ready_from f j) (drop-cons all j ignore (omega (arith, all_many a b w.parts w.laid)) ∙ ap (λ (i : ℕ). get_or all j ignore ∷ drop i all) after) ∙ ap (λ (u : Bool). u && ready_from f (j + 1) (drop (j + 1) all)) q

      pub not_ready : (full : List ℕ) (r : ℕ) {t : Bool} → t ≡ matches (pattern_of (get_or b at 0) (value_at b (at + 1))) (token_of a.ins heads vals j) → t ≡ false → trial full r ≡ quiet
      unfolding try_on attempt
      not_ready full r e g = rw (next_is false (sym g ∙ e))

      pub one_ready : {t : Bool} (c size : ℕ) → t ≡ matches (pattern_of (get_or b at 0) (value_at b (at + 1))) (token_of a.ins heads vals j) → t ≡ true → c ≡ get_or b at 0 → size ≡ pattern_size c → Before f all (j + 1) (at + size)
      one_ready c size e g ec es = record {
        here = here_next a b w.parts w.laid j at h.here l c size ec es;
        left = sym (next_is true (sym g ∙ e));
      }

    module _ (l : a.ins + a.vars ≤ j) where
      pub guard_here : at ≡ w.parts.guard
      guard_here = here_guard a b w.parts w.laid j at h.here l

      abbrev en : Env
      en = view_env (types_in ins a.ins) (types_in vars a.vars) vals ru

      trial_is : (full : List ℕ) (r : ℕ) → trial full r ≡ judge_of en full ru r
      unfolding try_on attempt ready_from
      trial_is full r = let e : drop j all ≡ [] = drop_of_length-le all {i = j} (omega (arith, l, all_many)) in rw (sym h.left ∙ ap (ready_from f j) e)

      pub trial_quiet : (full : List ℕ) (r : ℕ) → Ok false ≡ judged_as (judge_of en full ru 0) → trial full r ≡ quiet
      trial_quiet full r e = trial_is full r ∙ said en full ru r _ refl ∙ by_quiet en full ru r _ e

      pub trial_fires : (full : List ℕ) (r : ℕ) → Ok true ≡ judged_as (judge_of en full ru 0) → trial full r ≡ fires r
      trial_fires full r e = trial_is full r ∙ said en full ru r _ refl ∙ by_fires en full ru r _ e

      pub trial_faulty : (full : List ℕ) (r : ℕ) (n : Fault) → Err n ≡ judged_as (judge_of en full ru 0) → trial full r ≡ faulty n
      trial_faulty full r n e = trial_is full r ∙ said en full ru r _ refl ∙ by_faulty en full ru r n _ e
