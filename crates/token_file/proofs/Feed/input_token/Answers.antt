use Prim.Native.Nat.{ℕ, ◌+◌, ◌*◌, ◌≤◌}
use mathlib.Core.Path.{ap, ◌∙◌}
use native.Mathlib.Omega.{arith}
use borrow.Author.Rules.{rules}
use lib.ListN.{length, drop}
use Rattle.model.specs.States.{token_at}
use Rattle.token_file.proofs.Laws.{token_inside, token_in}
use Rattle.token_file.proofs.Feed.input_token.Goals as goal

pub overflow_mul-k : goal.overflow_mul-k
overflow_mul-k c =
    let inside : 5 * c.args.k ≤ length c.args.self.now.site.tokens.now = omega (arith, token_inside _ _ _ c.requires.in_file c.requires.k_in_bounds, c.requires.in_file) in
    search rules

pub overflow_add-start-2 : goal.overflow_add-start-2
overflow_add-start-2 c =
    let inside : c.entry-start.result + 3 + 5 * c.args.k ≤ length c.args.self.now.site.tokens.now =
    omega (arith, token_inside _ _ _ c.requires.in_file c.requires.k_in_bounds, c.requires.in_file, c.entry-start.ensures.0) in
    search rules

pub returns : goal.returns
returns c =
    let here = ap (λ (o : ℕ). token_at (drop (o + 3 + 5 * c.args.k) c.args.self.now.site.tokens.now)) c.entry-start.ensures.0 in
    (c.token_at.ensures.0 ∙ here ∙ token_in _ _ _ c.requires.in_file c.requires.k_in_bounds, c.token_at.ensures.1)
