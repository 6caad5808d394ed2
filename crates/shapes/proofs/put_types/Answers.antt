use Rattle.std.proofs.Common.{arith}
use Rattle.shapes.proofs.Laws.{pair_more}
use Rattle.shapes.proofs.put_types.Goals as goal

pub loop-k-preserved : goal.loop-k-preserved
loop-k-preserved g c = pair_more c.loop-k.types c.loop-k.k _ _ (omega arith) (λ j t. g.F.Fn.post c.args.of (j, tt) t) c.loop-k.invariant c.of-t.ensures
