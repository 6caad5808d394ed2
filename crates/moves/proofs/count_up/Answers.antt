use Prim.Native.Nat.{ℕ, ◌+◌}
use mathlib.Core.Path.{ap, ◌∙◌}
use mathlib.Core.List.{◌++◌}
use lib.ListN.{drop}
use Rattle.model.specs.Bytes.{two_bytes}
use Rattle.moves.specs.Moves.{count_bytes}
use Rattle.moves.proofs.count_up.Goals as goal

pub returns : goal.returns
unfolding count_bytes
returns c =
    c.put_two.ensures ∙ ap (λ (k : ℕ). two_bytes (k + 1) ++ drop 2 c.args.s.now) c.two_at-n.ensures.0
