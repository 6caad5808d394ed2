use native.Mathlib.Omega.{arith}
use mathlib.Core.Path.{◌∙◌}
use lib.ListN.{set, length-set}
use borrow.Rule.Slice.PartMut.{same_len_mid}
use Rattle.tokens.proofs.Laws.{head_stores}
use Rattle.tokens.proofs.put_head.Goals as goal

pub shape_of-out : goal.shape_of-out
shape_of-out c =
    let a = c.args in
    same_len_mid 1 2 (set a.out.now 0 33) c.put_two.new.s c.put_two.auto.s ∙ simp length-set

pub returns : goal.returns
returns c =
    let a = c.args in
    head_stores a.out.now _ a.n (omega arith) c.put_two.ensures
