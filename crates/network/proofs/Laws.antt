-- The ways out of the whole check.
-- Assumes nothing.
use mathlib.Core.Path.{◌≡◌, refl}
use mathlib.Core.List.{List, []}
use Prim.Native.Nat.{ℕ, ◌≤◌, ◌<◌}
use lib.ListN.{length}
use borrow.Author.Tests.{le-leb, lt-leb, lt-ltb, le-ltb}
use Rattle.model.specs.NetworkFile.{Index, good, refuse, next, or_refuse, by_verdict, fields, odd_wire, ports_of, net_of, network}
use Rattle.model.specs.Calls.{accepted, refused, check_call}

pub too_long : (s : List ℕ) → 16384 < length s → network s ≡ refuse 2 0
unfolding network or_refuse
too_long s h = rw (lt-leb (length s) 16384 h) refl

module _ (s : List ℕ) (l : length s ≤ 16384) where
  pub bad_field : (n p : ℕ) → refuse n p ≡ fields s → network s ≡ refuse n p
  unfolding network or_refuse next
  bad_field n p e = rw (le-leb (length s) 16384 l, ← e) refl

  module _ (x : Index) (w : ℕ) (e : good x ≡ fields s) (o : w ≡ odd_wire (net_of s x [])) where
    pub odd_ports : w < length x.wires → network s ≡ refuse 3 w
    unfolding network or_refuse next ports_of
    odd_ports h = rw (le-leb (length s) 16384 l, ← e, ← o, lt-ltb w (length x.wires) h) refl

    pub all_good : length x.wires ≤ w → network s ≡ good x
    unfolding network or_refuse next ports_of
    all_good h = rw (le-leb (length s) 16384 l, ← e, ← o, le-ltb w (length x.wires) h) refl

-- ── as a call ────────────────────────────────────────────────────────────────────────────────

pub said_bad : (s : List ℕ) (n p : ℕ) → refuse n p ≡ network s → refused n p 0 ≡ check_call s
unfolding check_call by_verdict
said_bad s n p e = rw (← e) refl

pub said_good : (s : List ℕ) (x : Index) → good x ≡ network s → accepted ≡ check_call s
unfolding check_call by_verdict
said_good s x e = rw (← e) refl
