-- The verdict that an answer of the check stands for, and what one field is looked at for.
-- Assumes nothing.
use Rattle.std.specs.Prelude.{ℕ, ◌≡◌, List, Result, Ok, Err, Some}
use Rattle.model.specs.declared.Field.{Field}
use Rattle.model.specs.declared.Reason.{Reason}
use Rattle.model.specs.declared.Refusal.{Refusal}
use Rattle.model.specs.Bytes.{stretch}
use Rattle.model.specs.Reasons.{reason_number}
use Rattle.model.specs.NetworkFile.{Index, Verdict, good, refuse, field_at, field_fault, stop, on_field}
use Rattle.table.specs.declared.Counts.{Counts}
use Rattle.table.specs.Table.{index_in}

-- the verdict that an answer with its table stands for
unfoldable pub verdict_in : List ℕ → Result Counts Refusal → Verdict Index
verdict_in t (Ok c) = good (index_in t c)
verdict_in t (Err r) = refuse (reason_number r.reason) r.place

-- the field that stands at an offset, and nothing is wrong with it after those in the index
pub record Sound (s : List ℕ) (x : Index) (at : ℕ) (f : Field) : Type 0 where
  pub there : field_at s at ≡ Some f
  pub right : field_fault s x f.tag (stretch s f.start f.len) ≡ 0

-- a sound field, or the reason for which the walk stops there
unfoldable pub Looked : List ℕ → Index → ℕ → Result Field Reason → Type 0
Looked s x at (Ok f) = Sound s x at f
Looked s x at (Err r) = on_field s x at (field_at s at) ≡ stop (refuse (reason_number r) at)
