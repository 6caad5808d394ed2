-- An expression that has a type works out to a fault, or to a value of a type of precision 1 to 30 that 32 bits hold.
-- Assumes nothing.
use mathlib.Core.Path.{◌≡◌, refl}
use mathlib.Core.Bool.{Bool, true, false, ◌&&◌}
use mathlib.Core.List.{List}
use Prim.Native.Nat.{ℕ, zero, suc, ◌^◌, ◌≤◌}
use native.Mathlib.Omega.{arith}
use lib.Dec.{leb, lit≤}
use lib.IntN.{ℤ, pos}
use lib.ListN.{get_or}
use lib.Signed.{mag}
use borrow.Author.Tests.{leb-true}
use Rattle.model.specs.declared.Ty.{Ty}
use Rattle.std.specs.Prelude.{Ok, Err}
use Rattle.model.specs.Values.{Outcome, is_plain, in_precision, within, no_type, is_true}
use Rattle.model.specs.Expressions.{Exp, literal, matched, variable, cast, one, two, if, precise, typed, judged, type_of, then, value_of}
use Rattle.model.proofs.Tests.{and_left, and_right}
use Rattle.model.proofs.Wrapping.{within_mag, pow_30}
use Rattle.values.proofs.Results.{Small, Sound, sound_cond, wrap_small, apply_sound, apply_one_sound}
use Rattle.types.specs.Scopes.{scope_in}
use Rattle.types.proofs.Judging.{operand_typed}
use Rattle.evaluation.specs.Envs.{env_in, EnvFits}

pub judged_true : (b : Bool) (t : Ty) {u : Ty} → judged b t ≡ typed u → b ≡ true
unfolding judged
judged_true true t e = refl
judged_true false t e = absurd (let z : ◌≡◌ {A = ℕ} 0 1 = cc in omega arith)

precision : (t : Ty) → in_precision t ≡ true → (1 ≤ t.p) × (t.p ≤ 30)
unfolding in_precision
precision t e = (leb-true 1 t.p (and_left (leb 1 t.p) (leb t.p 30) e), leb-true t.p 30 (and_right (leb 1 t.p) (leb t.p 30) e))

sound_then : (x : Outcome) (f : Ty → ℤ → Outcome) → Sound x → ((t : Ty) (a : ℤ) → Small t a → Sound (f t a)) → Sound (then x f)
unfolding Sound then
sound_then (Ok v) f h g = g v.ty v.value h
sound_then (Err x) f h g = tt

module _ (vs : List ℤ) (ts : List ℕ) (ok : EnvFits vs ts) where
  ins_small : (i : ℕ) → mag (get_or (env_in vs ts).ins i (pos 0)) ≤ 2 ^ 31
  unfolding env_in
  ins_small zero = ok.small 0
  ins_small (suc zero) = ok.small 1
  ins_small (suc (suc zero)) = ok.small 2
  ins_small (suc (suc (suc zero))) = ok.small 3
  ins_small (suc (suc (suc (suc i)))) = lit≤ tt

  vars_small : (i : ℕ) → mag (get_or (env_in vs ts).vars i (pos 0)) ≤ 2 ^ 31
  unfolding env_in
  vars_small zero = ok.small 4
  vars_small (suc zero) = ok.small 5
  vars_small (suc (suc zero)) = ok.small 6
  vars_small (suc (suc (suc zero))) = ok.small 7
  vars_small (suc (suc (suc (suc i)))) = lit≤ tt

  pub sound : (e : Exp) (t : Ty) → precise e ≡ true → type_of (scope_in ts) e ≡ typed t → Sound (value_of (env_in vs ts) e)
  unfolding Sound precise type_of value_of env_in
  sound (literal u z) t p y =
      let b = judged_true (is_plain u && within u z) u y in
      let w = precision u p in
      record { low = w.0; high = w.1; small = omega (arith, within_mag u z w.0 (and_right (is_plain u) (within u z) b), pow_30 w.1) }
  sound (matched i) t p y =
      let w = ok.ins i (judged_true (is_plain (get_or (scope_in ts).ins i no_type)) _ y) in
      record { low = w.0; high = w.1; small = ins_small i }
  sound (variable i) t p y =
      let w = ok.vars i (judged_true (is_plain (get_or (scope_in ts).vars i no_type)) _ y) in
      record { low = w.0; high = w.1; small = vars_small i }
  sound (cast u e) t p y =
      let r = operand_typed 3 (type_of (scope_in ts) e) _ y in
      let w = precision u (and_left (in_precision u) (precise e) p) in
      sound_then (value_of (env_in vs ts) e) _ (sound e r.0 (and_right (in_precision u) (precise e) p) r.1.0) (λ v a h. wrap_small u w.0 w.1 a)
  sound (one o e) t p y =
      let r = operand_typed 1 (type_of (scope_in ts) e) _ y in
      sound_then (value_of (env_in vs ts) e) _ (sound e r.0 p r.1.0) (λ v a h. apply_one_sound v h.low h.high o a)
  sound (two o e f) t p y =
      let r = operand_typed 1 (type_of (scope_in ts) e) _ y in
      let q = operand_typed _ (type_of (scope_in ts) f) _ r.1.1 in
      sound_then (value_of (env_in vs ts) e) _ (sound e r.0 (and_left (precise e) (precise f) p) r.1.0)
      (λ v a h. sound_then (value_of (env_in vs ts) f) _ (sound f q.0 (and_right (precise e) (precise f) p) q.1.0) (λ u b k. apply_sound v h.low h.high o a b))
  sound (if c e f) t p y =
      let r = operand_typed 1 (type_of (scope_in ts) c) _ y in
      let q = operand_typed _ (type_of (scope_in ts) e) _ r.1.1 in
      let s = operand_typed _ (type_of (scope_in ts) f) _ q.1.1 in
      let pc = and_left (precise c && precise e) (precise f) p in
      sound_then (value_of (env_in vs ts) c) _ (sound c r.0 (and_left (precise c) (precise e) pc) r.1.0)
      (λ v a h. sound_cond (is_true a) (value_of (env_in vs ts) e) (value_of (env_in vs ts) f) (sound e q.0 (and_right (precise c) (precise e) pc) q.1.0) (sound f s.0 (and_right (precise c && precise e) (precise f) p) s.1.0))
