-- The types of a good box's inputs and variables, as its rules may name them, have a precision of 1 to 30.
-- Assumes nothing.
use mathlib.Core.Path.{◌≡◌, sym, subst}
use mathlib.Core.Bool.{Bool, true, false, cond, ◌||◌}
use mathlib.Core.List.{List, [], ◌∷◌}
use Prim.Native.Nat.{ℕ, zero, suc, ◌-◌, ◌^◌, ◌≤◌}
use native.Mathlib.Omega.{arith}
use lib.Dec.{eqb}
use lib.IntN.{ℤ, pos}
use lib.ListN.{get_or}
use lib.Signed.{mag}
use Rattle.model.specs.declared.Ty.{Ty}
use Rattle.model.specs.Values.{no_type, is_plain, is_dc, carried}
use Rattle.model.specs.Rules.{Pattern, ignore, any, only, Rule, Shape, matched_type, matched_types, scope_of}
use Rattle.model.proofs.Decoded.{Each, GoodType}
use Rattle.types.specs.Scopes.{scope_in}
use Rattle.evaluation.specs.Envs.{EnvFits}
use Rattle.typing.specs.Fits.{Agree}

-- a type that may be named is precise
unfoldable Fine : Ty → Type 0
Fine t = is_plain t ≡ true → (1 ≤ t.p) × (t.p ≤ 30)

no_fine : Fine no_type
unfolding Fine is_plain no_type
no_fine e = let z : ◌≡◌ {A = ℕ} 0 1 = cc in absurd (omega arith)

good_fine : {t : Ty} → GoodType t → Fine t
unfolding Fine
good_fine g e = (g.low, g.high)

carried_fine : (t : Ty) → GoodType t → Fine (carried t)
unfolding Fine carried
carried_fine t g = go (is_dc t)
  where
    go : (b : Bool) → Fine (cond b (record { kind = t.kind - 2; p = t.p }) t)
    go true e = (g.low, g.high)
    go false e = (g.low, g.high)

matched_fine : (t : Ty) (p : Pattern) → GoodType t → Fine (matched_type t p)
unfolding matched_type
matched_fine t ignore g = no_fine
matched_fine t (only tag z) g = no_fine
matched_fine t (any tag) g = go (eqb tag 0 || eqb tag 3)
  where
    go : (b : Bool) → Fine (cond b (carried t) no_type)
    go true = carried_fine t g
    go false = no_fine

ins_fine : (ts : List Ty) (ps : List Pattern) → Each GoodType no_type ts → (i : ℕ) → Fine (get_or (matched_types ts ps) i no_type)
unfolding matched_types
ins_fine ts [] g i = no_fine
ins_fine [] (p ∷ ps) g i = no_fine
ins_fine (t ∷ ts) (p ∷ ps) g zero = matched_fine t p (g 0 (omega arith))
ins_fine (t ∷ ts) (p ∷ ps) g (suc i) = ins_fine ts ps (λ k l. g (suc k) (omega (arith, l))) i

vars_fine : (ts : List Ty) → Each GoodType no_type ts → (j : ℕ) → Fine (get_or ts j no_type)
vars_fine [] g j = no_fine
vars_fine (t ∷ ts) g zero = good_fine (g 0 (omega arith))
vars_fine (t ∷ ts) g (suc j) = vars_fine ts (λ k l. g (suc k) (omega (arith, l))) j

-- values of 32 bits, and types that agree with those of a good box
pub env_fits : (sh : Shape) (r : Rule) (vs : List ℤ) (ts : List ℕ) → Each GoodType no_type sh.ins → Each GoodType no_type sh.vars → Agree (scope_in ts) (scope_of sh r) → ((i : ℕ) → mag (get_or vs i (pos 0)) ≤ 2 ^ 31) → EnvFits vs ts
unfolding Fine scope_of
env_fits sh r vs ts gi gv h small = record {
  ins = λ i. subst Fine (sym (h.ins i)) (ins_fine sh.ins r.ins gi i);
  vars = λ j. subst Fine (sym (h.vars j)) (vars_fine sh.vars gv j);
  small = small;
}
