use Rattle.std.proofs.Common.{◌≡◌, ◌*◌, length, get_or}
use Rattle.tokens.proofs.Laws.{written}
use Rattle.tokens.proofs.load_values.Given as goal

-- The first j values are written, and what stood behind them stands. Assumes nothing.
abbrev pub invariant-loop-j : goal.invariant-loop-j
invariant-loop-j l = (l.n ≡ get_or l.body 2 0) × (length l.initial.part ≡ 4 * l.n) × (l.part ≡ written l.body l.initial.part l.j)
