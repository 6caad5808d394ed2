use Rattle.std.proofs.Common.{◌≡◌, ◌≢◌, ap, ◌∙◌, rules}
use Rattle.std.proofs.lemmas.Iterator.{YieldsList-from_slice, cases_from_all}
use borrow.Author.Tests.{tests}
use Rattle.model.specs.States.{all_zero}
use Rattle.tokens.proofs.Laws.{all_zeros, left_from}
use Rattle.tokens.proofs.all_zero.Goals as goal

pub returns : goal.returns
returns c =
    all_zeros _ _ (cases_from_all _ _ _ (λ x. x ≡ 0) (λ x. x ≢ 0) c.all.ensures.ran (YieldsList-from_slice _ c.iter.ensures.rest) (λ x q h. search (rules, tests)) (λ x q h. search (rules, tests)))
    ∙ ap all_zero (left_from c.args.s.now c.args.from _ c.min-start.ensures)
