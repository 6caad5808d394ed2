use mathlib.Core.Path.{◌≡◌, refl, sym, ap, ◌∙◌}
use mathlib.Core.List.{List}
use Prim.Native.Nat.{ℕ, ◌+◌, ◌≤◌, ◌<◌}
use native.Mathlib.Omega.{arith}
use Rattle.std.proofs.lemmas.Result.{err_from_is_err_and}
use Rattle.model.specs.Bytes.{stretch, two_at}
use Rattle.model.specs.NetworkFile.{Index, body_at, rule_at}
use Rattle.model.specs.declared.Fault.{Fault}
use Rattle.model.specs.Cycles.{Mark, matches, quiet, fires, faulty, first, up_from}
use Rattle.shapes.specs.declared.Arity.{Arity}
use Rattle.trying.specs.Views.{mark_as}
use Rattle.trying.specs.Working.{Ruled}
use Rattle.trying.proofs.Searching.{from, ended, size_small, first_quiet, first_fires, first_faulty, first_none, before_first, stands_here, not_ready, one_ready, guard_here, trial_quiet, trial_fires, trial_faulty}
use Rattle.trying.proofs.search.Goals as goal
use Rattle.trying.proofs.search.Goals.{In-Some, After-rule_body-body, In-loop-j}

-- the body that was found is that of the rule, and can be worked out
ruled_here : {a : Arity} {ins vars b : List ℕ} (s : List ℕ) (o : ℕ) → b ≡ stretch s (o + 3) (two_at s (o + 1)) → Ruled a ins vars (body_at s o) → Ruled a ins vars b
unfolding body_at
ruled_here s o e w = rw e w

same_body : {b : List ℕ} (s : List ℕ) (x : Index) (k r : ℕ) → b ≡ stretch s (rule_at x k r + 3) (two_at s (rule_at x k r + 1)) → body_at s (rule_at x k r) ≡ b
unfolding body_at
same_body s x k r p = sym p

-- from rule r on the search goes on, or ends
module _ (f : ℕ → Mark) {n i r : ℕ} (e : r ≡ i) (l : r < n) (h : from f n i ≡ from f n 0) where
  from_here : from f n r ≡ from f n 0
  from_here = ap (from f n) e ∙ h

  goes_on : {j : ℕ} → j ≡ i + 1 → f r ≡ quiet → from f n j ≡ from f n 0
  goes_on {j} q g = let s : j ≡ r + 1 = omega arith in ap (from f n) s ∙ sym (first_quiet f n r l g) ∙ from_here

  ends_fires : f r ≡ fires r → fires r ≡ first f (up_from 0 n)
  ends_fires q = ended f n r (fires r) from_here (first_fires f n r l q)

  ends_faulty : {m : Fault} → f r ≡ faulty m → faulty m ≡ first f (up_from 0 n)
  ends_faulty q = ended f n r (faulty _) from_here (first_faulty f n r _ l q)

-- the next rule is one of the box's
known : (c : In-Some) → c.in-Some.r < c.args.count
known c = omega (arith, c.in-Some.ensures.steps, c.rules.invariant.end)

ruled : (c : After-rule_body-body) → Ruled c.args.scene.now.arity c.args.scene.now.ins.now c.args.scene.now.vars.now c.rule_body-body.result.now
ruled c =
    let l : c.in-Some.r < c.args.count = omega (arith, c.in-Some.ensures.steps, c.rules.invariant.end) in
    ruled_here _ _ c.rule_body-body.ensures.bytes (c.requires.rules.ruled c.in-Some.r l)

pub rules-init : goal.rules-init
rules-init c = record { end = refl; within = omega arith; left = refl }

pub overflow_cast-rule : goal.overflow_cast-rule
overflow_cast-rule c = omega (arith, c.requires.rules.few, known c)

pub rule_body-body-requires-clause-r_in_bounds : goal.rule_body-body-requires-clause-r_in_bounds
rule_body-body-requires-clause-r_in_bounds c = omega (arith, c.requires.rules.there, known (goal.at.rule_body-body-requires-clause-r_in_bounds c).In-Some)

pub loop-j-init : goal.loop-j-init
loop-j-init c = before_first _ _

pub pattern_ready-requires : goal.pattern_ready-requires
pattern_ready-requires c = (stands_here _ _ _ _ (ruled (goal.at.pattern_ready-requires c).After-rule_body-body) _ _ _ _ c.loop-j.invariant c.loop-j-test.true).inside

pub rules-preserved-then-not-pattern_ready : goal.rules-preserved-then-not-pattern_ready
rules-preserved-then-not-pattern_ready c =
    let at = goal.at.rules-preserved-then-not-pattern_ready c in
    let e = c.pattern_ready.ensures ∙ ap (matches _) c.token_at.ensures in
    let q = not_ready _ _ _ _ (ruled at.After-rule_body-body) _ _ _ _ c.loop-j.invariant c.loop-j-test.true _ c.in-Some.r e c.if-not-pattern_ready.true in
    record {
      end = c.in-Some.ensures.steps.0 ∙ c.rules.invariant.end;
      within = omega (arith, c.in-Some.ensures.steps, known at.In-Some);
      left = goes_on _ c.in-Some.ensures.steps.1.1 (known at.In-Some) c.rules.invariant.left c.in-Some.ensures.steps.1.2 (rw (same_body _ _ _ _ c.rule_body-body.ensures.bytes) q);
    }

pub overflow_add-at : goal.overflow_add-at
overflow_add-at c =
    let s = stands_here _ _ _ _ (ruled (goal.at.overflow_add-at c).After-rule_body-body) _ _ _ _ c.loop-j.invariant c.loop-j-test.true in
    omega (arith, s.inside, c.pattern_size-at.ensures, size_small c.byte_at.result)

pub loop-j-preserved : goal.loop-j-preserved
loop-j-preserved c =
    let w = ruled (goal.at.loop-j-preserved c).After-rule_body-body in
    let e = c.pattern_ready.ensures ∙ ap (matches _) c.token_at.ensures in
    one_ready _ _ _ _ w _ _ _ _ c.loop-j.invariant c.loop-j-test.true _ _ e c.if-not-pattern_ready.false c.byte_at.ensures c.pattern_size-at.ensures

pub settle-requires : goal.settle-requires
settle-requires c =
    let w = ruled (goal.at.settle-requires c).After-rule_body-body in
    record { ruled = w; guard = guard_here _ _ _ _ w _ _ _ _ c.loop-j.invariant c.loop-j-test.false; small = c.requires.smalls }

pub rules-preserved : goal.rules-preserved
rules-preserved c =
    let at = goal.at.rules-preserved c in
    let q = trial_quiet _ _ _ _ (ruled at.After-rule_body-body) _ _ _ _ c.loop-j.invariant c.loop-j-test.false _ c.in-Some.r (rw c.if-fires.false at (sym c.in_ok-fires.was ∙ c.settle.ensures)) in
    record {
      end = c.in-Some.ensures.steps.0 ∙ c.rules.invariant.end;
      within = omega (arith, c.in-Some.ensures.steps, known at.In-Some);
      left = goes_on _ c.in-Some.ensures.steps.1.1 (known at.In-Some) c.rules.invariant.left c.in-Some.ensures.steps.1.2 (rw (same_body _ _ _ _ c.rule_body-body.ensures.bytes) q);
    }

pub returns-in_default : goal.returns-in_default
unfolding mark_as
returns-in_default c =
    let i = c.rules.invariant in
    let none : c.args.count ≤ c.rules.untried.start = omega (arith, c.in_default.ensures.steps, i.end) in
    ap mark_as (ended _ _ _ quiet i.left (first_none _ _ _ none))

pub returns-in_err-fires : goal.returns-in_err-fires
unfolding mark_as
returns-in_err-fires c =
    let at = goal.at.returns-in_err-fires c in
    let q = trial_faulty _ _ _ _ (ruled at.After-rule_body-body) _ _ _ _ c.loop-j.invariant c.loop-j-test.false _ c.in-Some.r _ (sym c.in_err-fires.was ∙ c.settle.ensures) in
    let e = err_from_is_err_and c.from_residual.result c.from_residual.ensures.1 in
    rw (e.1, e.2) (ap mark_as (ends_faulty _ c.in-Some.ensures.steps.1.1 (known at.In-Some) c.rules.invariant.left (rw (same_body _ _ _ _ c.rule_body-body.ensures.bytes) q)))

pub returns-then-fires : goal.returns-then-fires
unfolding mark_as
returns-then-fires c =
    let at = goal.at.returns-then-fires c in
    let q = trial_fires _ _ _ _ (ruled at.After-rule_body-body) _ _ _ _ c.loop-j.invariant c.loop-j-test.false _ c.in-Some.r (rw c.if-fires.true at (sym c.in_ok-fires.was ∙ c.settle.ensures)) in
    ap mark_as (ends_fires _ c.in-Some.ensures.steps.1.1 (known at.In-Some) c.rules.invariant.left (rw (same_body _ _ _ _ c.rule_body-body.ensures.bytes) q))
