use Rattle.std.proofs.Common.{◌≡◌, ℕ, true, false, arith, rules}
use Rattle.std.proofs.lemmas.Iterator.{YieldsList-from_range, cases_from_all, serves_from_Range}
use borrow.Author.Tests.{tests}
use Rattle.model.specs.NetworkFile.{variable_start}
use Rattle.model.specs.Values.{in_precision}
use Rattle.model.specs.Expressions.{type_at}
use Rattle.model.proofs.Decoded.{every_at}
use Rattle.faults.specs.Variables.{fits_at}
use Rattle.faults.proofs.Every.{all_every}
use Rattle.faults.proofs.variables_fit.Goals as goal

pub all-requires-clause-callable : goal.all-requires-clause-callable
all-requires-clause-callable c =
    let a = c.args in
    let precise = λ (j : ℕ). in_precision (type_at a.b.now (variable_start a.b.now j)) in
    serves_from_Range (λ x q h. search rules) (λ x l h. let e : precise x ≡ true = every_at a.n precise c.requires.j_value x (omega arith) in search (rules, e))

pub returns : goal.returns
returns c =
    let a = c.args in
    let test = λ (i : ℕ). fits_at a.b.now (variable_start a.b.now i) in
    all_every a.n test _ (cases_from_all _ _ _ (λ i. test i ≡ true) (λ i. test i ≡ false) c.all.ensures.ran (YieldsList-from_range 0 a.n a.n (cc) (omega arith)) (λ i q h. search (rules, tests)) (λ i q h. search (rules, tests)))
