use Rattle.std.proofs.Common.{sym, ◌∙◌}
use Rattle.rules.proofs.Stops.{read_start, read_stop, read_on, read_all}
use Rattle.rules.proofs.read_to.Goals as goal

pub loop-k-init : goal.loop-k-init
loop-k-init c = read_start _ _

pub returns-in_default : goal.returns-in_default
returns-in_default c = sym (read_stop _ _ _ _ _ c.loop-k-test.true (sym c.part_end.ensures ∙ c.in_default.is)) ∙ c.loop-k.invariant

pub loop-k-preserved : goal.loop-k-preserved
loop-k-preserved c = sym (read_on _ _ _ _ _ _ c.loop-k-test.true (sym c.part_end.ensures ∙ c.in-Some.is)) ∙ c.loop-k.invariant

pub returns : goal.returns
returns c = sym (read_all _ _ _ _ _ c.loop-k-test.false) ∙ c.loop-k.invariant
