-- What the check of a network file answers, and where a rule's body lies in it.
-- Assumes nothing.
use Rattle.std.specs.Prelude.{ℕ, ◌≡◌, ◌+◌, ◌≤◌, List, length, Result, Ok, Err, Option, Some, None}
use Rattle.model.specs.declared.Refusal.{Refusal}
use Rattle.model.specs.Reasons.{reason_number}
use Rattle.model.specs.NetworkFile.{Stretch, refuse, network}
use Rattle.model.specs.Calls.{body_call}
use Rattle.lookup.specs.declared.Net.{Net}
use Rattle.network.specs.declared.Stretch as declared

-- a network of file s, which its fields show to be accepted; or why s is refused, and where
unfoldable pub Checked : List ℕ → Result Net Refusal → Type 0
Checked s (Ok n) = n.file.now ≡ s
Checked s (Err r) = network s ≡ refuse (reason_number r.reason) r.place

-- empty at the file's end
abbrev pub nowhere : List ℕ → Stretch
nowhere s = record { start = length s; len = 0 }

-- the body of rule r of box b lies there, in the file
pub record Lies (s : List ℕ) (b r : ℕ) (x : declared.Stretch) : Type 0 where
  pub body : body_call s b r ≡ record { start = x.start; len = x.len }
  pub inside : x.start + x.len ≤ length s

-- none: there is no such rule
unfoldable pub Found : List ℕ → ℕ → ℕ → Option declared.Stretch → Type 0
Found s b r (Some x) = Lies s b r x
Found s b r None = body_call s b r ≡ nowhere s
