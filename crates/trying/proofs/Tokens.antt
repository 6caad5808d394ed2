-- The token that a pattern is held against.
-- Assumes nothing.
use mathlib.Core.Path.{◌≡◌, ◌∙◌}
use mathlib.Core.Bool.{Bool}
use mathlib.Core.List.{List}
use Prim.Native.Nat.{ℕ, ◌+◌, ◌-◌, ◌≤◌, ◌<◌}
use lib.IntN.{ℤ, pos}
use lib.ListN.{get_or}
use borrow.Author.Tests.{lt-ltb, le-ltb}
use Rattle.model.specs.Rules.{Pattern}
use Rattle.model.specs.Cycles.{matches}
use Rattle.trying.specs.Views.{token_of}

module _ (p : Pattern) (ins : ℕ) (heads : List ℕ) (vals : List ℤ) (j : ℕ) where
  pub ready_input : {r : Bool} (tag : ℕ) (y z : ℤ) → j < ins → tag ≡ get_or heads j 0 → y ≡ z → z ≡ get_or vals j (pos 0) → r ≡ matches p (record { tag = tag; value = y }) → r ≡ matches p (token_of ins heads vals j)
  unfolding token_of
  ready_input tag y z l e g f h = h ∙ rw (lt-ltb j ins l, e, g, f)

  pub ready_variable : {r : Bool} (k : ℕ) (y z : ℤ) → ins ≤ j → k ≡ 4 + (j - ins) → y ≡ z → z ≡ get_or vals k (pos 0) → r ≡ matches p (record { tag = 0; value = y }) → r ≡ matches p (token_of ins heads vals j)
  unfolding token_of
  ready_variable k y z l e g f h = h ∙ rw (le-ltb j ins l, g, f, e)
