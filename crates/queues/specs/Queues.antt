-- What is done to the bytes of one wire and of one process.
-- Assumes nothing.
use Rattle.std.specs.Prelude.{ℕ, ◌+◌, ◌-◌, ◌*◌, ◌≤◌, ◌<◌, List, ◌++◌, length, get_or, drop, set, replicate}
use Rattle.model.specs.declared.Token.{Token}
use Rattle.model.specs.Bytes.{two_at, two_bytes}
use Rattle.model.specs.States.{token_bytes}
use Rattle.queues.specs.Segments.{mid, put_mid}

-- a wire's bytes have room for one token more
pub record WireRoom (s : List ℕ) : Type 0 where
  pub room : 1 + 5 * get_or s 0 0 + 5 ≤ length s
  pub small : get_or s 0 0 < 255

-- a wire's bytes hold a token
pub record WireHeld (s : List ℕ) : Type 0 where
  pub some : 0 < get_or s 0 0
  pub whole : 1 + 5 * get_or s 0 0 ≤ length s

-- an output's bytes have room for one token more
pub record GotRoom (s : List ℕ) : Type 0 where
  pub room : 2 + 5 * two_at s 0 + 5 ≤ length s
  pub small : two_at s 0 < 65535

-- a wire's bytes with one token more at the back
unfoldable pub push_bytes : List ℕ → Token → List ℕ
push_bytes s t = set (put_mid (1 + 5 * get_or s 0 0) 5 s (token_bytes t)) 0 (get_or s 0 0 + 1)

-- without the five oldest bytes, and as many zeros behind the others
unfoldable pub moved : List ℕ → List ℕ
moved s = drop 5 s ++ replicate 5 0

-- a wire's bytes without the oldest token: the others moved down, zeros where the last one stood
unfoldable pub pop_bytes : List ℕ → List ℕ
pop_bytes s = let n = get_or s 0 0 in set (put_mid 1 (5 * n) s (moved (mid 1 (5 * n) s))) 0 (n - 1)

-- an output's bytes with one token more at the back
unfoldable pub got_bytes : List ℕ → Token → List ℕ
got_bytes s t = let n = two_at s 0 in two_bytes (n + 1) ++ drop 2 (put_mid (2 + 5 * n) 5 s (token_bytes t))
