-- Demand 3 holds of every accepted network. The order check accepts exactly the orders it speaks of, a run's own order among them.
-- Assumes nothing.
use mathlib.Core.Path.{◌≡◌, refl, sym, ap, ◌∙◌}
use mathlib.Core.Bool.{true}
use mathlib.Core.List.{List, [], ◌∷◌, ◌++◌}
use Prim.Native.Nat.{ℕ, zero, suc, ◌+◌, ◌-◌, ◌*◌, ◌/◌, ◌%◌, ◌^◌, ◌≤◌}
use native.Mathlib.Omega.{arith}
use native.Mathlib.Nat.{pow-succ', div-div-eq-div-mul}
use lib.Dec.{eqb, eqb-suc-suc}
use lib.Pow.{pow_pos}
use borrow.Author.Tests.{eqb-true}
use mathlib.Core.Logic.{◌≢◌}
use Rattle.model.specs.declared.Fault.{Fault}
use Rattle.model.specs.Network.{Net, State}
use Rattle.model.specs.NetworkFile.{hit, count}
use Rattle.model.specs.Cycles.{Ended, bits, has, is_order, marked_of, marked_set, Deed, mark, Finding, broken, still, moving, finding, run, halt, proceed, stop, later}
use Rattle.model.specs.Orders.{Order, Reached, cycled, deeds, Demand3}
use Rattle.model.proofs.Tests.{and₂}
use Rattle.model.proofs.Order.{remove, hit_same, hit_other, sum_remove, count_remove}
use Rattle.model.proofs.Sound.{marked_once, orders_alike}
use Rattle.model.proofs.Whole.{tokens_accepted}

-- the list one place down, its zeros left out
down : List ℕ → List ℕ
down [] = []
down (zero ∷ ks) = down ks
down (suc k ∷ ks) = k ∷ down ks

count_down : (ks : List ℕ) (j : ℕ) → count j (down ks) ≡ count (suc j) ks
unfolding count down
count_down [] j = refl
count_down (zero ∷ ks) j = omega (arith, count_down ks j, hit_other 0 (suc j) (λ e. omega (arith, e)))
count_down (suc k ∷ ks) j = omega (arith, count_down ks j, ap hit (eqb-suc-suc k j))

bits_down : (ks : List ℕ) → bits ks ≡ count 0 ks + 2 * bits (down ks)
unfolding bits count down
bits_down [] = refl
bits_down (zero ∷ ks) = omega (arith, bits_down ks, hit_same 0 0 refl)
bits_down (suc k ∷ ks) = omega (arith, bits_down ks, pow-succ' 2 k, hit_other (suc k) 0 (λ e. omega (arith, e)))

-- bit k tells whether k is named
pub bit : (k : ℕ) (ks : List ℕ) → ((j : ℕ) → count j ks ≤ 1) → bits ks / 2 ^ k % 2 ≡ count k ks
bit zero ks once = omega (arith, bits_down ks, once 0)
bit (suc k) ks once =
    let half : bits ks / 2 ≡ bits (down ks) = omega (arith, bits_down ks, once 0) in
    rw (pow-succ' 2 k) (rw (← div-div-eq-div-mul (bits ks) 2 (2 ^ k)) (rw half
    (bit k (down ks) (λ j. omega (arith, count_down ks j, once (suc j))) ∙ count_down ks k)))

-- one name struck off: its bit is cleared, and what is left names nothing twice
module _ (k : ℕ) (ms : List ℕ) (once : (j : ℕ) → count j ms ≤ 1) (c : count k ms ≡ 1) where
  cleared : bits ms - 2 ^ k ≡ bits (remove k ms)
  cleared = unfold bits in omega (arith, sum_remove bits (λ j. 2 ^ j) (λ j js. refl) k ms (omega (arith, c)))

  once_left : (j : ℕ) → count j (remove k ms) ≤ 1
  once_left j = omega (arith, once j, count_remove k ms (omega arith) j)

check_sound : (ms ks : List ℕ) → ((j : ℕ) → count j ms ≤ 1) → is_order (bits ms) ks ≡ true → (j : ℕ) → count j ks ≡ count j ms
unfolding is_order has bits count
check_sound [] [] once t j = refl
check_sound (m ∷ ms) [] once t j = absurd (omega (arith, eqb-true (2 ^ m + bits ms) 0 t, pow_pos m))
check_sound ms (k ∷ ks) once t j =
    let h = and₂ (eqb (bits ms / 2 ^ k % 2) 1) (is_order (bits ms - 2 ^ k) ks) t in
    let c : count k ms ≡ 1 = sym (bit k ms once) ∙ eqb-true (bits ms / 2 ^ k % 2) 1 h.0 in
    omega (arith, check_sound (remove k ms) ks (once_left k ms once c) (rw (cleared k ms once c) at h.1) j, count_remove k ms (omega arith) j)

check_complete : (ms ks : List ℕ) → ((j : ℕ) → count j ms ≤ 1) → ((j : ℕ) → count j ks ≡ count j ms) → is_order (bits ms) ks ≡ true
unfolding is_order has bits count
check_complete [] [] once h = refl
check_complete (m ∷ ms) [] once h = absurd (omega (arith, h m, hit_same m m refl))
check_complete ms (k ∷ ks) once h =
    let c : count k ms ≡ 1 = omega (arith, h k, once k, hit_same k k refl) in
    rw (bit k ms once, c, cleared k ms once c) (check_complete (remove k ms) ks (once_left k ms once c) (λ j. omega (arith, h j, count_remove k ms (omega (arith, c)) j)))

-- the order check of a state accepts exactly the orders that name each marked process once
module _ (n : Net) (s : State) where
  pub accepted-names : (ks : List ℕ) → is_order (marked_set n s) ks ≡ true → (k : ℕ) → count k ks ≡ count k (marked_of n s)
  accepted-names ks e = unfold marked_set in check_sound (marked_of n s) ks (marked_once n s) e

  pub names-accepted : (ks : List ℕ) → ((k : ℕ) → count k ks ≡ count k (marked_of n s)) → is_order (marked_set n s) ks ≡ true
  names-accepted ks h = unfold marked_set in check_complete (marked_of n s) ks (marked_once n s) h

pub any_order : Demand3
unfolding Demand3
any_order s ts n e = orders_alike n (tokens_accepted s ts n e).one

-- what the order check accepts is an order
pub checked_order : (n : Net) (s : State) (ks : List ℕ) → ((k : ℕ) (x : Fault) → finding n s ≢ broken k x) → is_order (marked_set n s) ks ≡ true → Order n s ks
checked_order n s ks c e = record { calm = c; names = accepted-names n s ks e }

-- the marked processes, lowest first, are an order
pub own_order : (n : Net) (s : State) → ((k : ℕ) (x : Fault) → finding n s ≢ broken k x) → Order n s (marked_of n s)
own_order n s c = record { calm = c; names = λ k. refl }

pub calm-moving : (n : Net) (s : State) → finding n s ≡ moving → (k : ℕ) (x : Fault) → finding n s ≢ broken k x
calm-moving n s e k x p = let z : ◌≡◌ {A = ℕ} 0 1 = cc in omega arith

-- a state with what was done since the load
pub record ReachedState (n : Net) (s : State) : Type 0 where
  pub story : List Deed
  pub reached : Reached n s story

-- every state that a run ends in is reached by cycles
pub run_reached : (n : Net) (b : ℕ) (s : State) (ds : List Deed) → Reached n s ds → ReachedState n (run n b s).state
unfolding run halt proceed stop later
run_reached n zero s ds x = by_finding (finding n s)
  where
    by_finding : (f : Finding) → ReachedState n (halt f s).state
    by_finding (broken k y) = record { story = ds; reached = x }
    by_finding still = record { story = ds; reached = x }
    by_finding moving = record { story = ds; reached = x }
run_reached n (suc b) s ds x = by_finding (finding n s) _ refl (λ o. run_reached n b _ (ds ++ deeds n (mark n s) (marked_of n s) s) (cycled (marked_of n s) x o))
  where
    by_finding : (f : Finding) (rest : Ended) → finding n s ≡ f → (Order n s (marked_of n s) → ReachedState n rest.state) → ReachedState n (proceed f s rest).state
    by_finding (broken k y) rest e ih = record { story = ds; reached = x }
    by_finding still rest e ih = record { story = ds; reached = x }
    by_finding moving rest e ih = ih (own_order n s (calm-moving n s e))
