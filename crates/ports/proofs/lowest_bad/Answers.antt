use Rattle.std.proofs.Common.{◌≡◌, ℕ, ◌≤◌, ◌<◌, true, false, rules, ◌∙◌}
use Rattle.std.specs.Option.{MatchOption}
use Rattle.std.proofs.lemmas.Iterator.{first_from_Range}
use borrow.Author.Tests.{tests}
use Rattle.ports.specs.Ports.{fits_in}
use Rattle.ports.proofs.Counts.{lowest_found}
use Rattle.ports.proofs.lowest_bad.Goals as goal

pub returns : goal.returns
unfolding fits_in
returns c =
    let a = c.args in
    let fits = fits_in a.reads.now a.writes.now in
    let found : MatchOption c.find.result ((k : ℕ) → 0 ≤ k → k < a.n → fits k ≡ true) (λ i. (0 ≤ i) × (i < a.n) × (fits i ≡ false) × ((k : ℕ) → 0 ≤ k → k < i → fits k ≡ true)) =
    first_from_Range _ _ _ _ (λ k. fits k ≡ false) (λ k. fits k ≡ true) c.find.ensures.ran (λ k q h. search (rules, tests)) (λ k q h. search (rules, tests)) in
    c.unwrap_or.ensures ∙ lowest_found fits a.n c.find.result found
