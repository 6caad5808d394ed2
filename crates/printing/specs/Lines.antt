-- The lines of the outputs, from the bytes that a call is lent.
-- Assumes nothing.
use Rattle.std.specs.Prelude.{true, List, [], ℕ}
use Rattle.model.specs.NetworkFile.{next, by_verdict}
use Rattle.model.specs.Calls.{with_tokens, held}
use Rattle.model.specs.Printing.{output_lines}

-- network file s, token file ts, state b
unfoldable pub lines_in : List ℕ → List ℕ → List ℕ → List ℕ
lines_in s ts b = by_verdict (next (with_tokens s ts) (held true b)) (λ h. output_lines 0 h.net.procs h.state.owns) (λ n p. [])
