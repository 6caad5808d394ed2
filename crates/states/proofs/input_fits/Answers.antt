use mathlib.Core.Path.{refl}
use Rattle.states.specs.Saved.{input_fits}
use Rattle.states.proofs.Bases.{input_said}
use Rattle.states.proofs.input_fits.Goals as goal

pub returns-in-Network : goal.returns-in-Network
unfolding input_fits
returns-in-Network c = rw c.in-Network.is refl

pub returns-in-Uncounted : goal.returns-in-Uncounted
unfolding input_fits
returns-in-Uncounted c = rw c.in-Uncounted.is refl

pub returns-in-Files : goal.returns-in-Files
returns-in-Files c = input_said _ _ _ _ _ _ c.in-Files.is (rw c.in-Files.is at c.requires) c.two_at.ensures.0 c.input_count.ensures
