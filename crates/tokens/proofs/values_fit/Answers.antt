use Rattle.std.proofs.Common.{◌≡◌, ◌*◌, true, false, sym, ◌∙◌, arith, rules}
use Rattle.std.proofs.lemmas.Iterator.{YieldsList-from_range, cases_from_all}
use Rattle.model.specs.Bytes.{value_at}
use Rattle.model.specs.Values.{within}
use Rattle.model.specs.Expressions.{type_at}
use Rattle.model.specs.NetworkFile.{variable_start}
use Rattle.tokens.proofs.Every.{all_every}
use Rattle.tokens.proofs.Laws.{values_are}
use Rattle.tokens.proofs.values_fit.Goals as goal

pub returns : goal.returns
returns c =
    let a = c.args in
    let n = c.from-n.result in
    let fits = λ (j : _). within (type_at a.body.now (variable_start a.body.now j)) (value_at a.part.now (4 * j)) in
    all_every n fits _ (cases_from_all _ _ _ (λ j. fits j ≡ true) (λ j. fits j ≡ false) c.all.ensures.ran (YieldsList-from_range 0 n n (cc) (omega arith)) (λ j q h. search rules) (λ j q h. search rules))
    ∙ sym (values_are a.body.now a.part.now n (c.from-n.ensures ∙ c.byte_at.ensures))
