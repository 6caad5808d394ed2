-- The value of an expression from the values of its operands, where they stand in the bytes.
-- Assumes nothing.
use mathlib.Core.Path.{◌≡◌, refl, sym, ap, ◌∙◌, subst}
use mathlib.Core.Bool.{Bool, true, false, not, cond, ◌&&◌, ◌||◌}
use mathlib.Core.Logic.{◌⊎◌, inl, inr}
use mathlib.Core.List.{List, [], ◌∷◌, ◌++◌, append_assoc}
use Prim.Native.Nat.{ℕ, suc, ◌+◌, ◌-◌, ◌≤◌, ◌<◌}
use native.Mathlib.Omega.{arith}
use lib.Dec.{leb, eqb}
use lib.IntN.{ℤ, pos}
use lib.ListN.{get_or, drop, length}
use mir.Syntax.{w64}
use mir.Val.{to_z, of_z}
use borrow.Author.Tests.{eqb-true, eqb-false, eq-eqb, ne_eqb}
use Rattle.model.specs.declared.Ty.{Ty}
use Rattle.std.specs.Prelude.{Result, Ok, Err}
use Rattle.model.specs.declared.Fault.{Fault}
use Rattle.model.specs.Values.{Outcome, gives, wrap, eq_z, is_true, apply, apply_one}
use Rattle.model.specs.Expressions.{Exp, Read, got, operands, type_at, build, expression, depth_of, precise, Scope, Typed, typed, ill, type_of, Env, then, value_of}
use Rattle.model.proofs.Tests.{and_right}
use Rattle.values.proofs.Machine.{back}
use Rattle.values.proofs.Results.{Small, Sound}
use Rattle.expressions.specs.Reading.{is_read, skip_to, shallow, fits_at}
use Rattle.expressions.proofs.Heads.{named_precise}
use Rattle.expressions.proofs.Depths.{four_up}
use Rattle.expressions.proofs.Shapes.{one_operand, two_operands, three_operands, at_most_three, build-cast, build_one, build_two, build-if}
use Rattle.expressions.proofs.Turns as turns
use Rattle.expressions.proofs.Turns.{Call, two_or_three, Reached, Next, there, all, end, count_all, next, last, deep}
use Rattle.types.specs.Scopes.{scope_in, placed, typed_at}
use Rattle.types.proofs.Judging.{Typeds, typed_built, typeds_at, type_drop}
use Rattle.evaluation.specs.declared.Valued.{Valued}
use Rattle.evaluation.specs.declared.names.Env as code
use Rattle.evaluation.specs.Envs.{outcome_at, valued_at, is_typed}
use Rattle.evaluation.specs.Named.{named_by}
use Rattle.evaluation.proofs.Sound.{sound}

-- ── what an answer says of the expression there ──────────────────────────────────────────────

-- a value with its type and the offset after it
abbrev pub value_at : Ty → ℤ → ℕ → Result Valued Fault
value_at t z n = Ok (record { ty = t; value = z; next = n })

outcome_value : (m : ℕ) (o : Outcome) {u : Ty} {x : ℤ} {n : ℕ} → outcome_at m o ≡ value_at u x n → (o ≡ gives u x) × (m ≡ n)
unfolding outcome_at
outcome_value m (Ok v) {u = u} {x = x} {n = n} e =
    let q : ◌≡◌ {A = Valued} (record { ty = v.ty; value = v.value; next = m }) (record { ty = u; value = x; next = n }) = cc in
    (ap (λ (w : Valued). gives w.ty w.value) q, ap (λ (w : Valued). w.next) q)
outcome_value m (Err k) e = absurd (let z : ◌≡◌ {A = ℕ} 0 1 = cc in omega arith)

outcome_fault : (m : ℕ) (o : Outcome) {q : Fault} → outcome_at m o ≡ Err q → o ≡ Err q
unfolding outcome_at
outcome_fault m (Ok v) e = absurd (let z : ◌≡◌ {A = ℕ} 0 1 = cc in omega arith)
outcome_fault m (Err k) e = cc

module _ (en : Env) (at : ℕ) (r : Read Exp) {e : Exp} {n : ℕ} (x : r ≡ got e n) where
  value_there_lem : {u : Ty} {z : ℤ} {m : ℕ} → valued_at en at r ≡ value_at u z m → (value_of en e ≡ gives u z) × (at + n ≡ m)
  unfolding valued_at
  value_there_lem y = outcome_value (at + n) (value_of en e) (rw x at y)

  fault_there : {q : Fault} → valued_at en at r ≡ Err q → value_of en e ≡ Err q
  unfolding valued_at
  fault_there y = outcome_fault (at + n) (value_of en e) (rw x at y)

  skip_there : skip_to at r ≡ at + n
  unfolding skip_to
  skip_there = rw x

typed_go : (at n : ℕ) (y : Typed) → is_typed (placed at n y) ≡ true → (t : Ty) × (y ≡ typed t)
unfolding is_typed placed
typed_go at n (typed t) e = (t, refl)
typed_go at n (ill k) e = absurd (let z : ◌≡◌ {A = ℕ} 0 1 = cc in omega arith)

module _ (sc : Scope) (at : ℕ) (r : Read Exp) {e : Exp} {n : ℕ} (x : r ≡ got e n) where
  type_there_lem : is_typed (typed_at sc at r) ≡ true → (t : Ty) × (type_of sc e ≡ typed t)
  unfolding typed_at
  type_there_lem y = typed_go at n (type_of sc e) (rw x at y)

  is_typed_lem : {t : Ty} → type_of sc e ≡ typed t → is_typed (typed_at sc at r) ≡ true
  unfolding typed_at placed is_typed
  is_typed_lem y = rw (x, y)

-- ── operators ────────────────────────────────────────────────────────────────────────────────

-- a cast, or not and lnot
abbrev pub one_value : ℕ → Ty → Ty → ℤ → Outcome
one_value c named t x = cond (eqb c 3) (gives named (wrap named x)) (apply_one c t x)

-- by the operator at a call
module _ (en : Env) (call : Call) where
  abbrev u : List ℕ
  u = drop call.at call.s

  abbrev c : ℕ
  c = call.c

  abbrev h : get_or u 0 0 ≡ c
  h = there call

  one_by : (b : Bool) (e : Exp) {t : Ty} {x : ℤ} → eqb c 3 ≡ b → 3 ≤ c → c ≤ 5 → value_of en e ≡ gives t x → value_of en (build u (e ∷ [])) ≡ one_value c (type_at u 1) t x
  unfolding value_of then
  one_by true e b l m y = rw (build-cast u c h e (eqb-true c 3 b), y, b)
  one_by false e b l m y = rw (build_one u c h e (four_up c l (eqb-false c 3 b)) m, y, b)

  value_one : (e : Exp) {t : Ty} {x : ℤ} → call.k ≡ 1 → value_of en e ≡ gives t x → value_of en (build u (e ∷ [])) ≡ one_value c (type_at u 1) t x
  value_one e o y = let r = one_operand c (sym call.count ∙ o) in one_by (eqb c 3) e refl r.0 r.1 y

  value_two : (e f : Exp) {t : Ty} {x : ℤ} → call.k ≡ 2 → value_of en e ≡ gives t x → value_of en (build u (e ∷ f ∷ [])) ≡ then (value_of en f) (λ v y. apply c t x y)
  unfolding value_of then
  value_two e f o y = let r = two_operands c (sym call.count ∙ o) in rw (build_two u c h e f r.0 r.1, y)

  value_if : (e f g : Exp) {t : Ty} {x : ℤ} → call.k ≡ 3 → value_of en e ≡ gives t x → value_of en (build u (e ∷ f ∷ g ∷ [])) ≡ cond (not (eq_z x (pos 0))) (value_of en f) (value_of en g)
  unfolding value_of then is_true
  value_if e f g o y = rw (build-if u c h e f g (three_operands c (sym call.count ∙ o)), y)

  cast_fault : (b : Bool) (e : Exp) {q : Fault} → eqb c 3 ≡ b → 3 ≤ c → c ≤ 5 → value_of en e ≡ Err q → value_of en (build u (e ∷ [])) ≡ Err q
  unfolding value_of then
  cast_fault true e b l m y = rw (build-cast u c h e (eqb-true c 3 b), y)
  cast_fault false e b l m y = rw (build_one u c h e (four_up c l (eqb-false c 3 b)) m, y)

  value_fault : (e : Exp) {q : Fault} (rest : List Exp) → suc (length rest) ≡ operands c → value_of en e ≡ Err q → value_of en (build u (e ∷ rest)) ≡ Err q
  unfolding value_of then
  value_fault e [] o y = let r = one_operand c (sym o) in cast_fault (eqb c 3) e refl r.0 r.1 y
  value_fault e (f ∷ []) o y = let r = two_operands c (sym o) in rw (build_two u c h e f r.0 r.1, y)
  value_fault e (f ∷ g ∷ []) o y = rw (build-if u c h e f g (three_operands c (sym o)), y)
  value_fault e (f ∷ g ∷ i ∷ rest) o y = absurd (omega (arith, at_most_three c))

-- a cast's precision
pub cast_precise : (x : Call) {named : Ty} → named ≡ type_at x.s (x.at + 1) → x.c ≡ 3 → (1 ≤ named.p) × (named.p ≤ 62)
cast_precise x q e =
    let n : (eqb x.c 0 || eqb x.c 3) ≡ true = rw (ne_eqb x.c 0 (λ i. omega arith), eq-eqb x.c 3 e) in
    named_precise x.s x.at x.c x.head n (turns.precise x) q

-- a signed local that holds a value, back from its bits
pub stored : {t : Ty} {z : ℤ} → Small t z → to_z w64 (of_z w64 z) ≡ z
stored h = back (omega (arith, h.small))

-- ── the call, and an operand of it ───────────────────────────────────────────────────────────

-- a call over these values, at an expression that has a type
pub record Work : Type 0 where
  pub call : Call
  pub names : code.Env
  pub typed : is_typed (typed_at (scope_in names.types) call.at (expression (drop call.at call.s))) ≡ true

abbrev scope : Work → Scope
scope w = scope_in w.names.types

abbrev env : Work → Env
env w = named_by w.names

abbrev read_at : Work → ℕ → Read Exp
read_at w i = expression (drop i w.call.s)

abbrev pub answer_at : Work → ℕ → Result Valued Fault
answer_at w i = valued_at (env w) i (read_at w i)

abbrev whole : Work → Result Valued Fault
whole w = answer_at w w.call.at

-- an if ends behind the branch for false
abbrev if_end : Work → ℤ → ℕ → ℕ
if_end w z m = cond (eq_z z (pos 0)) m (skip_to m (read_at w m))

answer : (w : Work) {y : Outcome} (es : List Exp) → (all w.call).es ≡ es → value_of (env w) (build (drop w.call.at w.call.s) es) ≡ y → whole w ≡ outcome_at (end w.call) y
unfolding valued_at
answer w es q e = rw ((all w.call).read, q) (ap (outcome_at (end w.call)) e)

-- an operand from an offset on, k being left with it; it has a type
pub record Operand (w : Work) (done : List Exp) (k at : ℕ) : Type 0 where
  pub next : Next w.call done k at
  pub ty : Ty
  pub typed : type_of (scope_in w.names.types) next.e ≡ typed ty

pub operand : (w : Work) {done : List Exp} {k at : ℕ} → Reached w.call done k at → 0 < k → Operand w done k at
operand w {done} r l =
    let x = w.call in
    let y = next r l in
    let t = type_there_lem (scope w) x.at (read_at w x.at) (all x).read w.typed in
    let all_Typed = typed_built (scope w) x (all x).es (count_all x) t.1 in
    let these : (all x).es ≡ done ++ (y.e ∷ y.onward.rest) = y.onward.these ∙ append_assoc done (y.e ∷ []) y.onward.rest in
    let its = typeds_at done y.e y.onward.rest (subst (λ (es : List Exp). Typeds (scope w) es all_Typed.0) these all_Typed.1) in
    record { next = y; ty = its.0; typed = its.1 }

module _ {w : Work} {done : List Exp} {k at : ℕ} (o : Operand w done k at) where
  abbrev its : Exp
  its = o.next.e

  -- what working it out asks: less depth than t, an offset inside, the limits, a type
  pub asked :
      {t : ℕ} → w.call.depth ≡ t →
      (w.call.depth - 1 < t)
      × ((at ≤ length w.call.s) × ((fits_at (w.call.depth - 1) (read_at w at) ≡ true) × (is_typed (typed_at (scope w) at (read_at w at)) ≡ true)))
  asked e =
      let y = is_typed_lem (scope w) at (read_at w at) o.next.read o.typed in
      (omega (arith, e, deep w.call), (o.next.inside, (o.next.fits, y)))

  pub is_there : is_read (read_at w at) ≡ true
  unfolding is_read
  is_there = rw o.next.read

  faulted : {q : Fault} → answer_at w at ≡ Err q → value_of (env w) its ≡ Err q
  faulted y = fault_there (env w) at (read_at w at) o.next.read y

  module _ {t : Ty} {z : ℤ} {n : ℕ} (y : answer_at w at ≡ value_at t z n) where
    worked : value_of (env w) its ≡ gives t z
    worked = (value_there_lem (env w) at (read_at w at) o.next.read y).0

    ends : at + o.next.n ≡ n
    ends = (value_there_lem (env w) at (read_at w at) o.next.read y).1

    pub small : Small t z
    unfolding fits_at shallow Sound
    small =
        let f : shallow (w.call.depth - 1) its ≡ true = rw o.next.read at o.next.fits in
        let g : Sound (value_of (env w) its) = sound w.names.vals w.names.types w.names.fits its o.ty (and_right (leb (depth_of its) (w.call.depth - 1)) (precise its) f) o.typed in
        rw worked at g

-- ── the first operand ────────────────────────────────────────────────────────────────────────

-- the first operand's value is z, of type t, and it ends at n
pub record First (w : Work) (t : Ty) (z : ℤ) (n : ℕ) : Type 0 where
  pub e : Exp
  pub value : value_of (named_by w.names) e ≡ gives t z
  pub small : Small t z
  pub reached : Reached w.call (e ∷ []) (w.call.k - 1) n

module _ {w : Work} {at : ℕ} (o : Operand w [] w.call.k at) where
  pub first : {t : Ty} {z : ℤ} {n : ℕ} → answer_at w at ≡ value_at t z n → First w t z n
  first y = record {
    e = o.next.e;
    value = worked o y;
    small = small o y;
    reached = subst (λ (i : ℕ). Reached w.call (o.next.e ∷ []) (w.call.k - 1) i) (ends o y) o.next.onward;
  }

  pub exit_first : (q : Fault) → answer_at w at ≡ Err q → whole w ≡ Err q
  unfolding outcome_at
  exit_first q y =
      let x = w.call in
      let r = o.next.onward in
      let n : suc (length r.rest) ≡ operands x.c = sym (ap length r.these) ∙ count_all x in
      answer w (o.next.e ∷ r.rest) r.these (value_fault (env w) w.call o.next.e r.rest n (faulted o y))

pub exit_one : {w : Work} {t named : Ty} {z y : ℤ} {n : ℕ} → First w t z n → w.call.k ≡ 1 → named ≡ type_at w.call.s (w.call.at + 1) → y ≡ z → whole w ≡ outcome_at n (one_value w.call.c named t y)
exit_one {w} f e q s =
    let x = w.call in
    let r = last f.reached (omega (arith, e)) in
    answer w (f.e ∷ []) r.0 (value_one (env w) w.call f.e e f.value) ∙ rw (r.1, s, q, type_drop x.at x.s 1)

-- ── the second operand that is worked out ────────────────────────────────────────────────────

-- the right side, or the branch that the first operand chooses, from f on: what its outcome makes of the whole
pub record Chosen (w : Work) (t : Ty) (z : ℤ) (f : ℕ) : Type 0 where
  pub done : List Exp
  pub left : ℕ
  pub it : Operand w done left f
  pub two : w.call.k ≡ 2 → whole w ≡ outcome_at (f + it.next.n) (then (value_of (env w) it.next.e) (λ v y. apply w.call.c t z y))
  pub three : w.call.k ≡ 3 → whole w ≡ outcome_at (if_end w z (f + it.next.n)) (value_of (env w) it.next.e)
  pub more : w.call.k ≡ 3 → eq_z z (pos 0) ≡ false → is_read (read_at w (f + it.next.n)) ≡ true

module _ {w : Work} {t : Ty} {z : ℤ} {n : ℕ} (g : First w t z n) (l : 0 < w.call.k - 1) where
  second : Operand w (g.e ∷ []) (w.call.k - 1) n
  second = operand w g.reached l

  abbrev after : ℕ
  after = n + second.next.n

  two_whole : w.call.k ≡ 2 → whole w ≡ outcome_at after (then (value_of (env w) second.next.e) (λ v y. apply w.call.c t z y))
  two_whole e =
      let r = last second.next.onward (omega (arith, e)) in
      answer w (g.e ∷ second.next.e ∷ []) r.0 (value_two (env w) w.call g.e second.next.e e g.value) ∙ rw r.1

  module _ (e : w.call.k ≡ 3) where
    third : Operand w (g.e ∷ second.next.e ∷ []) (w.call.k - 1 - 1) after
    third = operand w second.next.onward (omega (arith, e))

    if_whole : whole w ≡ outcome_at (after + third.next.n) (cond (not (eq_z z (pos 0))) (value_of (env w) second.next.e) (value_of (env w) third.next.e))
    if_whole =
        let r = last third.next.onward (omega (arith, e)) in
        let v = value_if (env w) w.call g.e second.next.e third.next.e e g.value in
        answer w (g.e ∷ second.next.e ∷ third.next.e ∷ []) r.0 v ∙ rw r.1

  chosen_by : (b v : Bool) {f : ℕ} → eqb w.call.k 3 ≡ b → eq_z z (pos 0) ≡ v → f ≡ cond (b && v) (skip_to n (read_at w n)) n → Chosen w t z f
  chosen_by false v p r q = rw q record {
    done = g.e ∷ [];
    left = w.call.k - 1;
    it = second;
    two = two_whole;
    three = λ e. absurd (eqb-false w.call.k 3 p e);
    more = λ e. absurd (eqb-false w.call.k 3 p e);
  }
  chosen_by true false p r q = rw q record {
    done = g.e ∷ [];
    left = w.call.k - 1;
    it = second;
    two = λ e. absurd (omega (arith, e, eqb-true w.call.k 3 p));
    three = λ e. if_whole e ∙ rw (r, skip_there (env w) after (read_at w after) (third e).next.read);
    more = λ e u. is_there (third e);
  }
  chosen_by true true p r q =
      let three = eqb-true w.call.k 3 p in
      rw (q ∙ skip_there (env w) n (read_at w n) second.next.read) record {
        done = g.e ∷ second.next.e ∷ [];
        left = w.call.k - 1 - 1;
        it = third three;
        two = λ e. absurd (omega (arith, e, three));
        three = λ e. if_whole three ∙ rw r;
        more = λ e u. let i : ◌≡◌ {A = ℕ} 0 1 = cc in absurd (omega arith);
      }

  pub chosen : {f : ℕ} {y : ℤ} → y ≡ z → f ≡ cond (eqb w.call.k 3 && eq_z y (pos 0)) (skip_to n (read_at w n)) n → Chosen w t z f
  chosen s q = chosen_by (eqb w.call.k 3) (eq_z z (pos 0)) refl refl (rw s at q)

module _ {w : Work} {t : Ty} {z : ℤ} {f : ℕ} (g : Chosen w t z f) where
  pub exit_second : (q : Fault) → 0 < w.call.k - 1 → answer_at w f ≡ Err q → whole w ≡ Err q
  unfolding outcome_at then
  exit_second q l a = go (two_or_three w.call l)
    where
      go : ((w.call.k ≡ 2) ⊎ (w.call.k ≡ 3)) → whole w ≡ Err q
      go (inl e) = g.two e ∙ rw (faulted g.it a)
      go (inr e) = g.three e ∙ rw (faulted g.it a)

  module _ {u : Ty} {y : ℤ} {m : ℕ} (a : answer_at w f ≡ value_at u y m) where
    pub exit_two : {i j : ℤ} → w.call.k ≡ 2 → i ≡ z → j ≡ y → whole w ≡ outcome_at m (apply w.call.c t i j)
    unfolding then
    exit_two e p q = g.two e ∙ rw (worked g.it a, ends g.it a, p, q)

    pub exit_if : {i j : ℤ} {to : ℕ} → w.call.k ≡ 3 → i ≡ z → j ≡ y → to ≡ if_end w i m → value_at u j to ≡ whole w
    unfolding outcome_at
    exit_if e p q r = rw (r, p, q) (sym (g.three e ∙ rw (worked g.it a, ends g.it a)))

    -- where the first operand is not 0, the branch for false stands behind the one that was worked out
    pub if_more : {i : ℤ} → w.call.k ≡ 3 → i ≡ z → eq_z i (pos 0) ≡ false → is_read (read_at w m) ≡ true
    if_more e p u = rw (← ends g.it a) (g.more e (rw p at u))
