use Rattle.std.proofs.Common.{◌≡◌, ◌*◌, true, false, sym, ◌∙◌, arith, rules, drop}
use Rattle.std.proofs.lemmas.Iterator.{YieldsList-from_range, cases_from_all}
use Rattle.model.specs.States.{token_at, token_fits}
use Rattle.tokens.proofs.Every.{all_every}
use Rattle.tokens.proofs.Laws.{tokens_every}
use Rattle.tokens.proofs.tokens_fit.Goals as goal

pub returns : goal.returns
returns c =
    let a = c.args in
    let fits = λ (i : _). token_fits a.t (token_at (drop (5 * i) a.s.now)) in
    all_every a.k fits _ (cases_from_all _ _ _ (λ i. fits i ≡ true) (λ i. fits i ≡ false) c.all.ensures.ran (YieldsList-from_range 0 a.k a.k (cc) (omega arith)) (λ i q h. search rules) (λ i q h. search rules))
    ∙ sym (tokens_every a.t a.k a.s.now)
