-- The walk over the fields, one turn at a time; and the one induction over it. Assumes nothing.
use Prim.Native.Nat.{ℕ, zero, suc, ◌-◌, ◌<◌}
use mathlib.Core.Path.{◌≡◌, refl, ap}
use mathlib.Core.List.{List}
use native.Mathlib.Omega.{arith}
use Rattle.model.specs.NetworkFile.{Index, Verdict, stop, go, step, walk}

-- one turn of the walk
pub turn : (k : ℕ) (s : List ℕ) (x : Index) (at : ℕ) → 0 < k → walk k s (go x at) ≡ walk (k - 1) s (step s x at)
unfolding walk
turn zero s x at h = absurd (omega arith)
turn (suc k) s x at h = let e : k ≡ suc k - 1 = omega arith in ap (λ (j : ℕ). walk j s (step s x at)) e

pub stopped : (k : ℕ) (s : List ℕ) (v : Verdict Index) → walk k s (stop v) ≡ v
unfolding walk
stopped zero s v = refl
stopped (suc k) s v = refl
