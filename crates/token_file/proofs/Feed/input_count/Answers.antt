use Prim.Native.Nat.{ℕ, ◌+◌, ◌/◌}
use mathlib.Core.Path.{sym, ap, ◌∙◌}
use Rattle.model.specs.Bytes.{two_at}
use Rattle.token_file.proofs.Laws.{count_in}
use Rattle.token_file.proofs.Feed.input_count.Goals as goal

pub returns : goal.returns
returns c =
    let two = c.two_at.ensures.0 ∙ ap (λ (o : ℕ). two_at c.args.self.now.site.tokens.now (o + 1)) c.entry-at.ensures.0 in
    ap (λ (k : ℕ). k / 5) two ∙ sym (count_in _ _ c.requires)
