-- An expression and an action at an offset of a rule's body, and what the code answers there.
-- Assumes nothing.
use mathlib.Core.Path.{◌≡◌, refl, sym, ap, ◌∙◌}
use mathlib.Core.Bool.{Bool, true, false, cond}
use mathlib.Core.List.{List, ◌∷◌}
use Prim.Native.Nat.{ℕ, ◌+◌, ◌-◌, ◌≤◌, ◌<◌}
use native.Mathlib.Omega.{arith}
use lib.IntN.{ℤ, pos}
use lib.ListN.{get_or, drop, length}
use lib.Seq.{drop-drop}
use lib.Dec.{eqb}
use borrow.Author.Tests.{ne_eqb}
use Rattle.std.specs.Prelude.{Result, Ok, Err, Some, None, ⊤}
use Rattle.model.specs.declared.Fault.{Fault}
use Rattle.model.specs.Values.{Outcome, gives}
use Rattle.model.specs.Expressions.{Exp, Read, bad, got, read_many, expression, Scope, Typed, typed, ill, type_of, Env, value_of}
use Rattle.model.specs.Rules.{Action, nothing, bare, send, bare_action, sent_tag, holds_expression, read_action}
use Rattle.model.specs.Cycles.{or_zero, result, new_var}
use Rattle.model.proofs.Tests.{and₂}
use Rattle.expressions.specs.Reading.{end_from, is_read, skip_to, limits_read}
use Rattle.expressions.proofs.Heads.{head_at}
use Rattle.types.specs.Scopes.{placed, typed_at}
use Rattle.rules.proofs.Ends.{action_there, action_skip}
use Rattle.rules.specs.Bodies.{action_codes, any_code, actions_from, sent_limits, limits_of}
use Rattle.evaluation.specs.declared.Valued.{Valued}
use Rattle.evaluation.specs.Envs.{outcome_at, valued_at, is_typed}
use Rattle.typing.specs.Fits.{list_read, exp_read, action_at}
use Rattle.typing.proofs.Peeling.{Peel, peel, first_read}
use Rattle.typing.proofs.Actions.{action_read, action_inside, first_limits, limits_read_lem}
use Rattle.actions.specs.Acts.{is_type, has_type, sent_typed, all_typed, fault_in, fault_of, or_fault, faults_of}

-- ── the expression at an offset ──────────────────────────────────────────────────────────────

-- the outcome, without the offset after the expression
unfoldable pub outcome_of : Result Valued Fault → Outcome
outcome_of (Ok v) = gives v.ty v.value
outcome_of (Err x) = Err x

outcome_is : (n : ℕ) (o : Outcome) → outcome_of (outcome_at n o) ≡ o
unfolding outcome_of outcome_at
outcome_is n (Ok v) = refl
outcome_is n (Err x) = refl

value_there_lem : (en : Env) (r : Read Exp) → limits_read r ≡ true → outcome_of (valued_at en 0 r) ≡ value_of en (exp_read r)
unfolding limits_read valued_at exp_read
value_there_lem en bad l = let z : ◌≡◌ {A = ℕ} 0 1 = cc in absurd (omega arith)
value_there_lem en (got e n) l = outcome_is (0 + n) (value_of en e)

placed_typed : (n : ℕ) (y : Typed) → is_typed (placed 0 n y) ≡ is_type y
unfolding is_typed placed is_type
placed_typed n (typed t) = refl
placed_typed n (ill k) = refl

typed_there : (sc : Scope) (r : Read Exp) → limits_read r ≡ true → is_typed (typed_at sc 0 r) ≡ has_type sc (exp_read r)
unfolding limits_read typed_at exp_read has_type
typed_there sc bad l = let z : ◌≡◌ {A = ℕ} 0 1 = cc in absurd (omega arith)
typed_there sc (got e n) l = placed_typed n (type_of sc e)

module _ (b u : List ℕ) (at : ℕ) (d : u ≡ drop at b) (l : limits_read (expression (drop at b)) ≡ true) where
  pub part_limits : limits_read (expression u) ≡ true
  part_limits = ap (λ (x : List ℕ). limits_read (expression x)) d ∙ l

  pub part_typed : (sc : Scope) → has_type sc (exp_read (expression (drop at b))) ≡ true → is_typed (typed_at sc 0 (expression u)) ≡ true
  part_typed sc h = typed_there sc (expression u) part_limits ∙ ap (λ (x : List ℕ). has_type sc (exp_read (expression x))) d ∙ h

  pub part_value : (en : Env) {x : Result Valued Fault} → x ≡ valued_at en 0 (expression u) → outcome_of x ≡ value_of en (exp_read (expression (drop at b)))
  part_value en e = ap outcome_of e ∙ value_there_lem en (expression u) part_limits ∙ ap (λ (x : List ℕ). value_of en (exp_read (expression x))) d

-- ── the action at an offset, by its code ─────────────────────────────────────────────────────

module _ (b : List ℕ) (at c : ℕ) (h : c ≡ get_or b at 0) where
  -- its expression
  abbrev held : Exp
  held = exp_read (expression (drop (at + 1) b))

  code_at : get_or (drop at b) 0 0 ≡ c
  code_at = head_at at b ∙ sym h

  bare_there : holds_expression c ≡ false → action_at (drop at b) ≡ bare_action c
  unfolding action_at
  bare_there e = rw (code_at, e)

  module _ (e : holds_expression c ≡ true) where
    sent_there : action_at (drop at b) ≡ send (sent_tag c) held
    unfolding action_at
    sent_there = rw (code_at, e, drop-drop 1 at b)

    pub held_limits : sent_limits (drop at b) ≡ true → limits_read (expression (drop (at + 1) b)) ≡ true
    unfolding sent_limits
    held_limits g = rw (code_at, e, drop-drop 1 at b) at g

    pub held_typed : (sc : Scope) → sent_typed sc (action_at (drop at b)) ≡ true → has_type sc held ≡ true
    unfolding sent_typed
    held_typed sc g = rw sent_there at g

  module _ (en : Env) where
    pub sends_none : c ≡ 0 → None ≡ result en (action_at (drop at b))
    unfolding action_at holds_expression bare_action result
    sends_none e = rw (code_at, e)

    pub sends_held : {z : ℤ} (tag : ℕ) → (holds_expression c ≡ true) × (tag ≡ sent_tag c) → z ≡ or_zero (value_of en held) → Some (record { tag = tag; value = z }) ≡ result en (action_at (drop at b))
    unfolding result
    sends_held tag e g = rw (sent_there e.0, e.1, g)

    pub sends_bare : (c ≡ 0 → ⊥) → holds_expression c ≡ false → Some (record { tag = c - 2; value = pos 0 }) ≡ result en (action_at (drop at b))
    unfolding bare_action result
    sends_bare n e = rw (bare_there e, ne_eqb c 0 n)

    pub keeps_new : {z : ℤ} (old : ℤ) → holds_expression c ≡ true → z ≡ or_zero (value_of en held) → z ≡ new_var en old (action_at (drop at b))
    unfolding new_var
    keeps_new old e g = rw (sent_there e) g

    pub keeps_old : (old : ℤ) → holds_expression c ≡ false → old ≡ new_var en old (action_at (drop at b))
    unfolding new_var bare_action
    keeps_old old e = go (eqb c 0) ∙ ap (new_var en old) (sym (bare_there e))
      where
        go : (t : Bool) → old ≡ new_var en old (cond t nothing (bare (c - 2)))
        go true = refl
        go false = refl

    pub no_fault : holds_expression c ≡ false → Ok tt ≡ fault_of en (action_at (drop at b))
    unfolding fault_of bare_action
    no_fault e = go (eqb c 0) ∙ ap (fault_of en) (sym (bare_there e))
      where
        go : (t : Bool) → Ok tt ≡ fault_of en (cond t nothing (bare (c - 2)))
        go true = refl
        go false = refl

    pub held_fault : {o : Outcome} → holds_expression c ≡ true → o ≡ value_of en held → fault_in o ≡ fault_of en (action_at (drop at b))
    unfolding fault_of
    held_fault e g = rw (sent_there e) (ap fault_in g)

-- ── one action after another ─────────────────────────────────────────────────────────────────

-- k actions from an offset on keep the limits and have types
pub record Ready (sc : Scope) (v : Bool) (b : List ℕ) (k at : ℕ) : Type 0 where
  pub limits : limits_of (actions_from v k at b) ≡ true
  pub typed : all_typed sc (list_read (actions_from v k at b)) ≡ true

-- the first of them, which ends at an offset
pub record First (sc : Scope) (v : Bool) (b : List ℕ) (k at end : ℕ) : Type 0 where
  pub inside : at < length b
  pub limits : sent_limits (drop at b) ≡ true
  pub typed : sent_typed sc (action_at (drop at b)) ≡ true
  pub list : list_read (actions_from v k at b) ≡ action_at (drop at b) ∷ list_read (actions_from v (k - 1) end b)
  pub ends : end_from at (read_action (action_codes v) (drop at b)) ≡ Some end
  pub rest : Ready sc v b (k - 1) end

module _ (sc : Scope) (v : Bool) (b : List ℕ) (k at : ℕ) (h : 0 < k) (x : Ready sc v b k at) where
  is_read_lem : is_read (read_action (action_codes v) (drop at b)) ≡ true
  unfolding actions_from
  is_read_lem = first_read (read_action (action_codes v)) b k at h (limits_read_lem _ x.limits)

  -- it can be skipped
  pub ready_there : is_read (read_action any_code (drop at b)) ≡ true
  ready_there = action_there (action_codes v) b at is_read_lem

  module _ (end : ℕ) (q : end ≡ skip_to at (read_action any_code (drop at b))) where
    g : end_from at (read_action (action_codes v) (drop at b)) ≡ Some end
    g = action_skip (action_codes v) b at is_read_lem end q

    peeled : Peel (read_action (action_codes v)) b k at end
    unfolding actions_from
    peeled = peel (read_action (action_codes v)) b k at end h (limits_read_lem _ x.limits) g

    list_is : list_read (actions_from v k at b) ≡ action_at (drop at b) ∷ list_read (actions_from v (k - 1) end b)
    unfolding actions_from
    list_is = peeled.list ∙ ap (λ (y : Action). y ∷ list_read (read_many (read_action (action_codes v)) (k - 1) (drop end b))) (action_read (action_codes v) (drop at b) peeled.first.read).0

    pub ready_first : First sc v b k at end
    unfolding all_typed
    ready_first =
        let l = first_limits v b k at end h x.limits g in
        let t = and₂ (sent_typed sc (action_at (drop at b))) (all_typed sc (list_read (actions_from v (k - 1) end b))) (sym (ap (all_typed sc) list_is) ∙ x.typed) in
        record { inside = action_inside v b at end g; limits = l.0; typed = t.0; list = list_is; ends = g; rest = record { limits = l.1; typed = t.1 } }

-- ── the first fault ──────────────────────────────────────────────────────────────────────────

module _ (en : Env) (v : Bool) (b : List ℕ) where
  -- the first fault of k actions from an offset on
  abbrev pub faults_from : ℕ → ℕ → Result ⊤ Fault
  faults_from k at = faults_of en (list_read (actions_from v k at b))

  pub faults_end : (k at : ℕ) → k ≤ 0 → faults_from k at ≡ Ok tt
  unfolding faults_of actions_from read_many list_read
  faults_end k at h = let q : k ≡ 0 = omega arith in rw q

  module _ (sc : Scope) (k at end : ℕ) (x : First sc v b k at end) {w : Result ⊤ Fault} (i : faults_from k at ≡ w) where
    faults_one : or_fault (fault_of en (action_at (drop at b))) (faults_from (k - 1) end) ≡ w
    unfolding faults_of
    faults_one = sym (ap (faults_of en) x.list) ∙ i

    pub faults_here : (x' : Fault) → Err x' ≡ fault_of en (action_at (drop at b)) → Err x' ≡ w
    unfolding or_fault
    faults_here x' e = ap (λ (f : Result ⊤ Fault). or_fault f (faults_from (k - 1) end)) e ∙ faults_one

    pub faults_on : Ok tt ≡ fault_of en (action_at (drop at b)) → faults_from (k - 1) end ≡ w
    unfolding or_fault
    faults_on e = ap (λ (f : Result ⊤ Fault). or_fault f (faults_from (k - 1) end)) e ∙ faults_one
