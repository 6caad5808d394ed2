use mathlib.Core.Path.{refl, ◌∙◌}
use native.Mathlib.Omega.{arith}
use Rattle.bench_c.proofs.Laying.{laid_next, laid_all}
use Rattle.bench_c.proofs.lay_rules.Goals as goal

pub loop-i-init : goal.loop-i-init
loop-i-init c = (refl, refl)

pub loop-i-preserved : goal.loop-i-preserved
loop-i-preserved c =
    let l = c.loop-i in
    (c.put.auto.answer ∙ l.invariant.0, laid_next _ l.i l.answer _ _ _ (omega arith) c.from.ensures c.put.ensures l.invariant.1)

pub returns : goal.returns
returns c = let l = c.loop-i in laid_all _ l.i l.answer _ (omega arith) l.invariant.1
