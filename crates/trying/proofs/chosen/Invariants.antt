use mathlib.Core.Bool.{false}
use Rattle.trying.proofs.chosen.Given as goal

-- the actions of outputs
abbrev pub ghost-actions_fault : goal.ghost-actions_fault
ghost-actions_fault a = false
