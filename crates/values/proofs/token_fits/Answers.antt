use mathlib.Core.Path.{◌≡◌, refl, sym, ◌∙◌}
use mathlib.Core.Bool.{Bool, true, false, ◌||◌}
use mathlib.Core.Logic.{inl, inr}
use Prim.Native.Nat.{ℕ, zero, suc, ◌≤◌, ◌<◌}
use native.Mathlib.Omega.{arith}
use borrow.Author.Tests.{le-leb, lt-leb, ne_eqb}
use lib.Dec.{eqb}
use lib.IntN.{pos}
use mir.Syntax.{w64}
use mir.Facts.{to_z-of_z}
use Rattle.model.specs.declared.Ty.{Ty}
use Rattle.model.specs.declared.Token.{Token}
use Rattle.model.specs.Values.{is_dc, carried, within, eq_z}
use Rattle.model.specs.Rules.{tag_fits}
use Rattle.model.specs.States.{token_fits}
use Rattle.values.proofs.Machine.{zero_bits}
use Rattle.values.proofs.token_fits.Goals as goal

-- a mark
marked : (k : ℕ) → 1 ≤ k → k ≤ 2 → (eqb k 1 || eqb k 2) ≡ true
marked zero l h = absurd (omega arith)
marked (suc zero) l h = refl
marked (suc (suc zero)) l h = refl
marked (suc (suc (suc k))) l h = absurd (omega arith)

-- the ways out
module _ (t : Ty) (k : Token) where
  no_tag : tag_fits t k.tag ≡ false → token_fits t k ≡ false
  unfolding token_fits
  no_tag e = rw e

  no_code : tag_fits t k.tag ≡ true → 3 < k.tag → token_fits t k ≡ false
  unfolding token_fits
  no_code e l = rw (e, lt-leb k.tag 3 l)

  mark : tag_fits t k.tag ≡ true → 1 ≤ k.tag → k.tag ≤ 2 → token_fits t k ≡ eq_z k.value (pos 0)
  unfolding token_fits
  mark e l h = rw (e, le-leb k.tag 3 (omega arith), marked k.tag l h)

  data-fits : tag_fits t k.tag ≡ true → k.tag ≤ 3 → (k.tag ≡ 1 → ⊥) → (k.tag ≡ 2 → ⊥) → token_fits t k ≡ within (carried t) k.value
  unfolding token_fits
  data-fits e l m n = rw (e, le-leb k.tag 3 l, ne_eqb k.tag 1 m, ne_eqb k.tag 2 n)

carried_p : (t : Ty) → (carried t).p ≡ t.p
unfolding carried
carried_p t = by_kind (is_dc t) refl
  where
    by_kind : (b : Bool) → is_dc t ≡ b → (carried t).p ≡ t.p
    by_kind true e = rw e
    by_kind false e = rw e

pub returns-then-not-tag_fits : goal.returns-then-not-tag_fits
returns-then-not-tag_fits c = elim c.then-not-tag_fits.either [
  | inl e ↦ sym (no_tag _ _ (sym c.tag_fits.ensures ∙ e))
  | inr p ↦ sym (no_code _ _ (sym c.tag_fits.ensures ∙ p.0) p.1)
]

pub returns-in-1 : goal.returns-in-1
returns-in-1 c =
    zero_bits c.args.k.value (record { sfits = omega arith }) ∙ sym (mark _ _ (sym c.tag_fits.ensures ∙ c.if-not-tag_fits.false) (grind arith) (grind arith))

pub within-requires-clause-le_p : goal.within-requires-clause-le_p
within-requires-clause-le_p c = rw (c.carried.ensures, carried_p c.args.t) c.requires.le_p

pub within-requires-clause-p_bound : goal.within-requires-clause-p_bound
within-requires-clause-p_bound c = rw (c.carried.ensures, carried_p c.args.t) c.requires.p_bound

pub returns-in_default : goal.returns-in_default
returns-in_default c =
    rw (c.within.ensures, c.carried.ensures, to_z-of_z {w = w64} {z = c.args.k.value} (record { sfits = omega arith }))
    (sym (data-fits _ _ (sym c.tag_fits.ensures ∙ c.if-not-tag_fits.false) c.if-k-gt3.false (grind arith) (grind arith)))
