-- What a box sees of a state.
-- Assumes nothing.
use Rattle.std.specs.Prelude.{ℕ, ◌+◌, ◌*◌, ◌^◌, ◌<◌, ◌≡◌, Bool, cond, List, [], ◌∷◌, eqb, leb, ℤ, pos, length, get_or}
use Rattle.std.specs.Int.Signed.{mag}
use Rattle.model.specs.declared.Token.{Token}
use Rattle.model.specs.Network.{Box, Net, State, queue}
use Rattle.model.specs.NetworkFile.{hit}
use Rattle.model.specs.Cycles.{oldest, full}
use Rattle.sights.specs.declared.View.{View}

-- the tag of the oldest token, 4 where no token waits
unfoldable pub head_of : List Token → ℕ
head_of [] = 4
head_of (t ∷ ts) = t.tag

-- the same from a wire's bytes: its count, then the oldest token's tag
unfoldable pub head_in : List ℕ → ℕ
head_in p = cond (eqb (get_or p 0 0) 0) 4 (get_or p 1 0)

unfoldable pub full_in : List ℕ → Bool  -- the tokens take all of a wire's bytes
full_in p = leb (length p) (1 + 5 * get_or p 0 0)

-- the oldest token's tag and value of each of the first n of these wires
pub record Oldest (s : State) (ws : List ℕ) (n : ℕ) (h : List ℕ) (v : List ℤ) : Type 0 where
  pub heads : (j : ℕ) → j < n → get_or h j 0 ≡ head_of (queue s (get_or ws j 0))
  pub values : (j : ℕ) → j < n → get_or v j (pos 0) ≡ (oldest (queue s (get_or ws j 0))).value

-- which of the first m of these wires are full
pub record Fulls (n : Net) (s : State) (ws : List ℕ) (m : ℕ) (v : List ℕ) : Type 0 where
  pub each : (j : ℕ) → j < m → get_or v j 0 ≡ hit (full n s (get_or ws j 0))

-- eight values of four bytes: places of four inputs, then the variables
pub record Variables (vs v : List ℤ) : Type 0 where
  pub long : length v ≡ 8
  pub vars : (j : ℕ) → j < length vs → get_or v (4 + j) (pos 0) ≡ get_or vs j (pos 0)
  pub small : (j : ℕ) → mag (get_or v j (pos 0)) < 2 ^ 31

-- the oldest token's value of each of these wires, then the variables
pub record Values (s : State) (ws : List ℕ) (vs v : List ℤ) : Type 0 where
  pub values : (j : ℕ) → j < length ws → get_or v j (pos 0) ≡ (oldest (queue s (get_or ws j 0))).value
  pub vars : (j : ℕ) → j < length vs → get_or v (4 + j) (pos 0) ≡ get_or vs j (pos 0)
  pub small : (j : ℕ) → mag (get_or v j (pos 0)) < 2 ^ 31

-- what a box sees: of each input the oldest token, of each variable its value, of each output whether its wire is full
pub record Seen (n : Net) (s : State) (b : Box) (vs : List ℤ) (v : View) : Type 0 where
  pub heads : (j : ℕ) → j < length b.ins → get_or v.heads j 0 ≡ head_of (queue s (get_or b.ins j 0))
  pub values : (j : ℕ) → j < length b.ins → get_or v.vals j (pos 0) ≡ (oldest (queue s (get_or b.ins j 0))).value
  pub vars : (j : ℕ) → j < length vs → get_or v.vals (4 + j) (pos 0) ≡ get_or vs j (pos 0)
  pub fulls : (j : ℕ) → j < length b.outs → get_or v.full j 0 ≡ hit (full n s (get_or b.outs j 0))
  pub small : (j : ℕ) → mag (get_or v.vals j (pos 0)) < 2 ^ 31
