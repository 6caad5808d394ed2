use native.Mathlib.Omega.{arith}
use Prim.Native.Nat.{◌*◌}
use Rattle.octets.proofs.Laws.{back}
use Rattle.queues.proofs.Stores.{put_var}
use Rattle.queues.proofs.put_var.Goals as goal

pub returns : goal.returns
returns c =
    let a = c.args in
    put_var a.s.now _ a.z _ (4 * a.j) (back {z = a.z} (omega arith)) c.put_value.ensures
