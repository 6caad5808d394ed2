-- Demands 1 and 3 over the bytes that the calls leave.
-- Assumes nothing.
use Rattle.std.specs.Prelude.{ℕ, zero, suc, ◌≤◌, ◌≡◌, ◌≢◌, true, List, take, drop}
use Rattle.model.specs.Network.{Net, State}
use Rattle.model.specs.NetworkFile.{good, next}
use Rattle.model.specs.Cycles.{cycle_in, marked_of}
use Rattle.model.specs.Calls.{Answer, accepted, loaded_with, marks, done, idle, spent, written, refused, Held, held, with_tokens, leaves, load_call, cycle_call, run_call, write_call}
use Rattle.octets.proofs.Laws.{Octets}

-- a load over any two old contents: equal state bytes, and the rest as it was
pub record LoadSame (s ts u v : List ℕ) (size : ℕ) : Type 0 where
  pub same : take size (load_call s ts u).bytes ≡ take size (load_call s ts v).bytes
  pub rest : drop size (load_call s ts u).bytes ≡ drop size u

unfoldable pub Loads : Type 0
Loads = (s ts u v : List ℕ) (size : ℕ) → (load_call s ts u).answer ≡ loaded_with size → (load_call s ts v).answer ≡ loaded_with size → LoadSame s ts u v size

-- a refusal leaves every lent byte; of a run, one that comes before its first cycle
pub record Refusals : Type 0 where
  pub load : (s ts st : List ℕ) (n p c : ℕ) → (load_call s ts st).answer ≡ refused n p c → (load_call s ts st).bytes ≡ st
  pub cycle : (s ts st order : List ℕ) (n p c : ℕ) → (cycle_call s ts st order).answer ≡ refused n p c → (cycle_call s ts st order).bytes ≡ st
  pub write : (s st out : List ℕ) (n p c : ℕ) → (write_call s st out).answer ≡ refused n p c → (write_call s st out).bytes ≡ out
  pub run : (s ts st : List ℕ) (budget n p : ℕ) → Octets st → (run_call s ts st budget).answer ≡ refused n p 0 → (run_call s ts st budget).bytes ≡ st

-- in any lent state, two orders that are not refused with 8 give the same answer and the same bytes
unfoldable pub AnyTwoOrders : Type 0
AnyTwoOrders = (s ts st o q : List ℕ) → Octets st → (cycle_call s ts st o).answer ≢ refused 8 0 0 → (cycle_call s ts st q).answer ≢ refused 8 0 0
    → cycle_call s ts st o ≡ cycle_call s ts st q

-- the state after so many cycles, each in the run's own order
unfoldable pub after_cycles : Net → ℕ → State → State
after_cycles n zero s = s
after_cycles n (suc c) s = after_cycles n c (cycle_in n (marked_of n s) s)

-- the cycles that an answer counts
unfoldable pub counted : Answer → ℕ
counted accepted = 0
counted (loaded_with size) = 0
counted (marks set) = 0
counted (done c) = c
counted (idle c) = c
counted (spent c) = c
counted (written size) = 0
counted (refused n p c) = c

-- a run, however it ends, keeps exactly the cycles that it counts
unfoldable pub Counts : Type 0
Counts = (s ts st : List ℕ) (budget : ℕ) (h : Held) → next (with_tokens s ts) (held true st) ≡ good h → budget ≤ 65535
    → let a = (run_call s ts st budget).answer in run_call s ts st budget ≡ leaves st h.net (after_cycles h.net (counted a) h.state) a
