use native.Mathlib.Omega.{arith}
use mathlib.Core.Path.{◌∙◌}
use lib.ListN.{set, length-set}
use borrow.Rule.Slice.PartMut.{same_len_mid}
use Rattle.octets.proofs.Laws.{back}
use Rattle.queues.proofs.Stores.{put_token}
use Rattle.queues.proofs.put_token.Goals as goal

pub shape_of-s : goal.shape_of-s
shape_of-s c = same_len_mid 1 4 (set c.args.s.now 0 c.args.t.tag) c.put_value.new.s c.put_value.auto.s ∙ simp length-set

pub returns : goal.returns
returns c =
    let a = c.args in
    put_token a.s.now _ a.t _ (omega arith) (back {z = a.t.value} (omega arith)) c.put_value.ensures
