-- A part of a slice: its bytes, and where it lies.
-- Assumes nothing.
use Rattle.std.specs.Prelude.{ℕ, ◌+◌, ◌≡◌, List}
use Rattle.std.specs.Borrow.{Bor}
use Rattle.model.specs.Bytes.{stretch}

-- r is the part of s that starts at start and is len bytes long: in the same memory, start bytes further on
pub record PartOf (s : Bor (List ℕ)) (start len : ℕ) (r : Bor (List ℕ)) : Type 0 where
  pub block : r.ref_ptr.0 ≡ s.ref_ptr.0
  pub place : r.ref_ptr.1 ≡ s.ref_ptr.1 + start
  pub bytes : r.now ≡ stretch s.now start len
