use mathlib.Core.Path.{◌≡◌, sym, ap, ◌∙◌}
use Prim.Native.Nat.{ℕ, ◌+◌}
use native.Mathlib.Omega.{arith}
use Rattle.model.specs.declared.Ty.{Ty}
use Rattle.model.specs.Bytes.{value_at}
use Rattle.model.specs.Rules.{pattern_of, pattern_fits, tag_fits}
use Rattle.octets.proofs.Laws.{back}
use Rattle.typing.proofs.Patterns.{fits_zero, fits_tag, fits_constant, fits_any, carried_p}
use Rattle.typing.proofs.pattern_fits.Goals as goal

pub returns-then-c-eq0 : goal.returns-then-c-eq0
returns-then-c-eq0 c =
    let a = c.args in
    fits_zero a.t _ _ (omega (arith, c.byte_at-c.ensures))

pub returns-then-not-tag_fits : goal.returns-then-not-tag_fits
returns-then-not-tag_fits c =
    let a = c.args in
    let k = c.byte_at-c in
    fits_tag a.t k.result (value_at a.b.now (a.at + 1)) (λ e. c.if-c-eq0.false e) (ap (tag_fits a.t) (sym c.pattern_tag.ensures) ∙ sym c.tag_fits.ensures ∙ c.if-not-tag_fits.true)
    ∙ ap (λ (j : ℕ). pattern_fits a.t (pattern_of j (value_at a.b.now (a.at + 1)))) k.ensures

pub within-requires : goal.within-requires
within-requires c =
    let a = c.args in
    let p = c.requires in
    let q : c.carried-u.result.p ≡ a.t.p = ap (λ (u : Ty). u.p) c.carried-u.ensures ∙ carried_p a.t in
    record { le_p = omega (arith, p.le_p.0); p_bound = omega (arith, p.le_p.1) }

pub returns-then-c : goal.returns-then-c
returns-then-c c =
    let a = c.args in
    let k = c.byte_at-c in
    let v = c.value_at in
    fits_constant a.t k.result (value_at a.b.now (a.at + 1)) (λ e. c.if-c-eq0.false e) (ap (tag_fits a.t) (sym c.pattern_tag.ensures) ∙ sym c.tag_fits.ensures ∙ c.if-not-tag_fits.false) c.if-c.true (c.within.ensures ∙ rw (back {z = v.result} (omega (arith, v.ensures.1)), v.ensures.0, c.carried-u.ensures))
    ∙ ap (λ (j : ℕ). pattern_fits a.t (pattern_of j (value_at a.b.now (a.at + 1)))) k.ensures

pub returns : goal.returns
returns c =
    let a = c.args in
    let k = c.byte_at-c in
    fits_any a.t k.result (value_at a.b.now (a.at + 1)) (λ e. c.if-c-eq0.false e) (ap (tag_fits a.t) (sym c.pattern_tag.ensures) ∙ sym c.tag_fits.ensures ∙ c.if-not-tag_fits.false) c.if-c.false
    ∙ ap (λ (j : ℕ). pattern_fits a.t (pattern_of j (value_at a.b.now (a.at + 1)))) k.ensures
