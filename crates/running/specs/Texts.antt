-- The refusal that a run's answer holds, and a buffer that holds the text.
-- Assumes nothing.
use Rattle.std.specs.Prelude.{ℕ, ◌≤◌, ◌≡◌, List, ◌++◌, length, drop, Result, Ok, Err}
use Rattle.model.specs.declared.Ran.{Ran}
use Rattle.model.specs.declared.Reason.TheVariants.{Form}
use Rattle.model.specs.declared.Refusal.{Refusal}
use Rattle.model.specs.Printing.{printed}

unfoldable pub refusal_of : Result Ran Refusal → Refusal
refusal_of (Ok r) = record { reason = Form; place = 0 }
refusal_of (Err r) = r

-- the r bytes at the start are what is printed for network file s and token file ts, and the rest is as it was
pub record Printed (s ts before after : List ℕ) (r : ℕ) : Type 0 where
  pub size : r ≡ length (printed s ts)
  pub bytes : after ≡ printed s ts ++ drop (length (printed s ts)) before
  pub inside : r ≤ length after
