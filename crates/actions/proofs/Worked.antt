-- Two environments that agree on what an expression may name give it the same value; and every expression of a rule that fits has a type.
-- Assumes nothing.
use mathlib.Core.Path.{◌≡◌, refl, sym, ap, ◌∙◌}
use mathlib.Core.Bool.{true}
use mathlib.Core.List.{List, [], ◌∷◌, map}
use Prim.Native.Nat.{ℕ, ◌+◌}
use native.Mathlib.Omega.{arith}
use lib.IntN.{ℤ, pos}
use lib.ListN.{get_or, length}
use Rattle.model.specs.declared.Ty.{Ty}
use Rattle.std.specs.Prelude.{Result, Ok, Err, ⊤}
use Rattle.model.specs.declared.Fault.{Fault}
use Rattle.model.specs.Values.{Outcome, no_type, is_plain, is_bool, is_true, carried}
use Rattle.model.specs.Expressions.{Exp, literal, matched, variable, cast, one, two, if, Scope, Typed, typed, ill, type_of, Env, then, value_of}
use Rattle.model.specs.Rules.{Action, nothing, bare, send, Rule, Shape, fits, guard_fits, action_fits, actions_fit, patterns_fit, size_of_action, scope_of, rule_fits}
use Rattle.model.specs.Rules as fit
use Rattle.model.specs.Cycles.{Mark, result, new_var, new_vars, faultless, actions_of, fires, chosen, attempt, guarded}
use Rattle.model.proofs.Tests.{and₂, both}
use Rattle.model.proofs.Decoded.{GoodRule}
use Rattle.model.proofs.Kept.{also_fits, fit_if_fits, has_type_fits}
use Rattle.types.proofs.Judging.{operand_typed}
use Rattle.evaluation.proofs.Sound.{judged_true}
use Rattle.typing.specs.Fits.{Agree}
use Rattle.typing.proofs.Scoping.{type_same}
use Rattle.actions.specs.Acts.{is_type, has_type, sent_typed, all_typed, fault_in, fault_of, or_fault, faults_of, mark_or}

-- the same types by number, and the same value of each input and variable that may be named
pub record Alike (en en' : Env) : Type 0 where
  pub scope : Agree en.scope en'.scope
  pub ins : (i : ℕ) → is_plain (get_or en.scope.ins i no_type) ≡ true → get_or en.ins i (pos 0) ≡ get_or en'.ins i (pos 0)
  pub vars : (j : ℕ) → is_plain (get_or en.scope.vars j no_type) ≡ true → get_or en.vars j (pos 0) ≡ get_or en'.vars j (pos 0)

then_same : (x y : Outcome) (f g : Ty → ℤ → Outcome) → x ≡ y → ((t : Ty) (a : ℤ) → f t a ≡ g t a) → then x f ≡ then y g
unfolding then
then_same x y f g e h = ap (λ (o : Outcome). then o f) e ∙ go y
  where
    go : (o : Outcome) → then o f ≡ then o g
    go (Ok v) = h v.ty v.value
    go (Err x) = refl

module _ (en en' : Env) (same : Alike en en') where
  pub value_same : (e : Exp) (t : Ty) → type_of en.scope e ≡ typed t → value_of en e ≡ value_of en' e
  unfolding type_of value_of
  value_same (literal u z) t y = refl
  value_same (matched i) t y = rw (same.scope.ins i, same.ins i (judged_true (is_plain (get_or en.scope.ins i no_type)) _ y))
  value_same (variable j) t y = rw (same.scope.vars j, same.vars j (judged_true (is_plain (get_or en.scope.vars j no_type)) _ y))
  value_same (cast u e) t y =
      let r = operand_typed 3 (type_of en.scope e) _ y in
      then_same _ _ _ _ (value_same e r.0 r.1.0) (λ v a. refl)
  value_same (one o e) t y =
      let r = operand_typed 1 (type_of en.scope e) _ y in
      then_same _ _ _ _ (value_same e r.0 r.1.0) (λ v a. refl)
  value_same (two o e f) t y =
      let r = operand_typed 1 (type_of en.scope e) _ y in
      let q = operand_typed _ (type_of en.scope f) _ r.1.1 in
      then_same _ _ _ _ (value_same e r.0 r.1.0) (λ v a. then_same _ _ _ _ (value_same f q.0 q.1.0) (λ u b. refl))
  value_same (if c e f) t y =
      let r = operand_typed 1 (type_of en.scope c) _ y in
      let q = operand_typed _ (type_of en.scope e) _ r.1.1 in
      let s = operand_typed _ (type_of en.scope f) _ q.1.1 in
      then_same _ _ _ _ (value_same c r.0 r.1.0) (λ v a. rw (value_same e q.0 q.1.0, value_same f s.0 s.1.0))

-- ── actions ──────────────────────────────────────────────────────────────────────────────────

-- an expression with a type, and the type
type_there_lem : (y : Typed) → is_type y ≡ true → (t : Ty) × (y ≡ typed t)
unfolding is_type
type_there_lem (typed t) e = (t, refl)
type_there_lem (ill k) e = let z : ◌≡◌ {A = ℕ} 0 1 = cc in absurd (omega arith)

module _ (en en' : Env) (same : Alike en en') where
  pub held_same : (e : Exp) → has_type en.scope e ≡ true → value_of en e ≡ value_of en' e
  unfolding has_type
  held_same e h = let r = type_there_lem (type_of en.scope e) h in value_same en en' same e r.0 r.1

  pub result-same : (x : Action) → sent_typed en.scope x ≡ true → result en x ≡ result en' x
  unfolding sent_typed result
  result-same nothing h = refl
  result-same (bare t) h = refl
  result-same (send t e) h = rw (held_same e h)

  pub new_same : (old : ℤ) (x : Action) → sent_typed en.scope x ≡ true → new_var en old x ≡ new_var en' old x
  unfolding sent_typed new_var
  new_same old nothing h = refl
  new_same old (bare t) h = refl
  new_same old (send t e) h = rw (held_same e h)

  fault_same : (x : Action) → sent_typed en.scope x ≡ true → fault_of en x ≡ fault_of en' x
  unfolding sent_typed fault_of
  fault_same nothing h = refl
  fault_same (bare t) h = refl
  fault_same (send t e) h = rw (held_same e h)

  pub results_same : (xs : List Action) → all_typed en.scope xs ≡ true → map (result en) xs ≡ map (result en') xs
  unfolding all_typed
  results_same [] h = refl
  results_same (x ∷ xs) h = let t = and₂ (sent_typed en.scope x) (all_typed en.scope xs) h in rw (result-same x t.0, results_same xs t.1)

  pub news_same : (olds : List ℤ) (xs : List Action) → all_typed en.scope xs ≡ true → new_vars en olds xs ≡ new_vars en' olds xs
  unfolding all_typed new_vars
  news_same [] xs h = refl
  news_same (z ∷ olds) [] h = rw (news_same olds [] h)
  news_same (z ∷ olds) (x ∷ xs) h = let t = and₂ (sent_typed en.scope x) (all_typed en.scope xs) h in rw (new_same z x t.0, news_same olds xs t.1)

  pub faults_same : (xs : List Action) → all_typed en.scope xs ≡ true → faults_of en xs ≡ faults_of en' xs
  unfolding all_typed faults_of
  faults_same [] h = refl
  faults_same (x ∷ xs) h = let t = and₂ (sent_typed en.scope x) (all_typed en.scope xs) h in rw (fault_same x t.0, faults_same xs t.1)

-- ── the mark that faults leave ───────────────────────────────────────────────────────────────

mark_held : (o : Outcome) (f : Result ⊤ Fault) (m : Mark) → faultless o (mark_or f m) ≡ mark_or (or_fault (fault_in o) f) m
unfolding faultless mark_or or_fault fault_in
mark_held (Ok v) f m = refl
mark_held (Err x) f m = refl

pub faults_mark : (en : Env) (xs : List Action) (m : Mark) → actions_of en xs m ≡ mark_or (faults_of en xs) m
unfolding actions_of faults_of fault_of or_fault mark_or
faults_mark en [] m = refl
faults_mark en (nothing ∷ xs) m = faults_mark en xs m
faults_mark en (bare t ∷ xs) m = faults_mark en xs m
faults_mark en (send t e ∷ xs) m = ap (faultless (value_of en e)) (faults_mark en xs m) ∙ mark_held (value_of en e) (faults_of en xs) m

pub actions_same : (en en' : Env) → Alike en en' → (xs : List Action) (m : Mark) → all_typed en.scope xs ≡ true → actions_of en xs m ≡ actions_of en' xs m
actions_same en en' same xs m h = faults_mark en xs m ∙ ap (λ (f : Result ⊤ Fault). mark_or f m) (faults_same en en' same xs h) ∙ sym (faults_mark en' xs m)

-- a chosen rule by the faults of its output actions, then of its variable actions
pub chosen_faults : (en : Env) (r : Rule) (k : ℕ) → chosen en r k ≡ mark_or (faults_of en r.outs) (mark_or (faults_of en r.sets) (fires k))
unfolding chosen
chosen_faults en r k = faults_mark en r.outs _ ∙ ap (mark_or (faults_of en r.outs)) (faults_mark en r.sets (fires k))

-- ── the types of a rule that fits ────────────────────────────────────────────────────────────

-- the guard is bool, and each expression of the actions has a type
pub record Judged (sc : Scope) (r : Rule) : Type 0 where
  pub guard_type : Ty
  pub guard : type_of sc r.guard ≡ typed guard_type
  pub bool : is_bool guard_type ≡ true
  pub outs : all_typed sc r.outs ≡ true
  pub sets : all_typed sc r.sets ≡ true

pub guard_has : {sc : Scope} {r : Rule} → Judged sc r → has_type sc r.guard ≡ true
unfolding has_type is_type
guard_has x = rw x.guard

guard_type_lem : (at : ℕ) (y : Typed) → guard_fits at y ≡ fits → (t : Ty) × ((y ≡ typed t) × (is_bool t ≡ true))
unfolding guard_fits
guard_type_lem at (typed t) e = (t, (refl, fit_if_fits (is_bool t) at e))
guard_type_lem at (ill k) e = let z : ◌≡◌ {A = ℕ} 0 1 = cc in absurd (omega arith)

fit_typed : (own at : ℕ) (t : Ty) (y : Typed) → fit.has_type own at t y ≡ fits → is_type y ≡ true
unfolding is_type
fit_typed own at t y e = rw (has_type_fits own at t y e)

action_typed : (sc : Scope) (at : ℕ) (t : Ty) (x : Action) → action_fits sc at t x ≡ fits → sent_typed sc x ≡ true
unfolding action_fits sent_typed has_type
action_typed sc at t nothing e = refl
action_typed sc at t (bare tag) e = refl
action_typed sc at t (send tag y) e = fit_typed at (at + 1) (carried t) (type_of sc y) (also_fits (fit.has_type at (at + 1) (carried t) (type_of sc y)) _ e).0

-- as many types as actions
actions_typed : (sc : Scope) (at : ℕ) (ts : List Ty) (xs : List Action) → length xs ≡ length ts → actions_fit sc at ts xs ≡ fits → all_typed sc xs ≡ true
unfolding actions_fit all_typed
actions_typed sc at ts [] l e = refl
actions_typed sc at [] (x ∷ xs) l e = absurd (omega arith)
actions_typed sc at (t ∷ ts) (x ∷ xs) l e =
    let f = also_fits (action_fits sc at t x) (actions_fit sc (at + size_of_action x) ts xs) e in
    both (sent_typed sc x) (all_typed sc xs) (action_typed sc at t x f.0) (actions_typed sc (at + size_of_action x) ts xs (omega arith) f.1)

pub rule_judged : (sh : Shape) (r : Rule) → GoodRule sh r → Judged (scope_of sh r) r
unfolding rule_fits
rule_judged sh r good =
    let sc = scope_of sh r in
    let f₁ = also_fits (patterns_fit 0 sh.ins r.ins) _ good.fits in
    let f₂ = also_fits (patterns_fit _ sh.vars r.vars) _ f₁.1 in
    let f₃ = also_fits (guard_fits _ (type_of sc r.guard)) _ f₂.1 in
    let f₄ = also_fits (actions_fit sc _ sh.outs r.outs) _ f₃.1 in
    let g = guard_type_lem _ (type_of sc r.guard) f₃.0 in
    record {
      guard_type = g.0;
      guard = g.1.0;
      bool = g.1.1;
      outs = actions_typed sc _ sh.outs r.outs good.outs f₄.0;
      sets = actions_typed sc _ sh.vars r.sets good.sets f₄.1;
    }

module _ (s t : Scope) (h : Agree s t) where
  typed_same : (x : Action) → sent_typed s x ≡ sent_typed t x
  unfolding sent_typed has_type
  typed_same nothing = refl
  typed_same (bare tag) = refl
  typed_same (send tag e) = ap is_type (type_same s t h e)

  all_same : (xs : List Action) → all_typed s xs ≡ all_typed t xs
  unfolding all_typed
  all_same [] = refl
  all_same (x ∷ xs) = rw (typed_same x, all_same xs)

  -- in a scope that agrees
  pub judged_same : (r : Rule) → Judged t r → Judged s r
  judged_same r x = record {
    guard_type = x.guard_type;
    guard = type_same s t h r.guard ∙ x.guard;
    bool = x.bool;
    outs = all_same r.outs ∙ x.outs;
    sets = all_same r.sets ∙ x.sets;
  }

-- ── a rule whose guard is reached ────────────────────────────────────────────────────────────

module _ (en en' : Env) (same : Alike en en') (r : Rule) (x : Judged en.scope r) (k : ℕ) where
  pub chosen_same : chosen en r k ≡ chosen en' r k
  unfolding chosen
  chosen_same = actions_same en en' same r.outs _ x.outs ∙ ap (actions_of en' r.outs) (actions_same en en' same r.sets (fires k) x.sets)

  pub guarded-same : guarded en r k (value_of en r.guard) ≡ guarded en' r k (value_of en' r.guard)
  unfolding guarded
  guarded-same = ap (guarded en r k) (value_same en en' same r.guard x.guard_type x.guard) ∙ go (value_of en' r.guard)
    where
      go : (o : Outcome) → guarded en r k o ≡ guarded en' r k o
      go (Ok v) = ap (attempt (is_true v.value)) chosen_same
      go (Err x) = refl
