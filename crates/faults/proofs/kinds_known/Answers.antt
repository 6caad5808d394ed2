use Rattle.std.proofs.Common.{◌≡◌, ℕ, true, false, leb, get_or, arith, rules}
use Rattle.std.proofs.lemmas.Iterator.{YieldsList-from_range, cases_from_all}
use borrow.Author.Tests.{tests}
use Rattle.model.specs.NetworkFile.{variable_start}
use Rattle.faults.proofs.Every.{all_every}
use Rattle.faults.proofs.kinds_known.Goals as goal

pub returns : goal.returns
returns c =
    let a = c.args in
    let test = λ (i : ℕ). leb (get_or a.b.now (variable_start a.b.now i) 0) 4 in
    all_every a.n test _ (cases_from_all _ _ _ (λ i. test i ≡ true) (λ i. test i ≡ false) c.all.ensures.ran (YieldsList-from_range 0 a.n a.n (cc) (omega arith)) (λ i q h. search (rules, tests)) (λ i q h. search (rules, tests)))
