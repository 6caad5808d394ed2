use mathlib.Core.Bool.{true}
use Rattle.trying.proofs.sets_fault.Given as goal

abbrev pub ghost-actions_fault : goal.ghost-actions_fault
ghost-actions_fault a = true
