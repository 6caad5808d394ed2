use Prim.Native.Nat.{◌-◌}
use mathlib.Core.Path.{◌∙◌}
use native.Mathlib.Omega.{arith}
use Rattle.places.proofs.Laws.{size_wire, size_box, size_input, size_output}
use Rattle.places.proofs.segment_size.Goals as goal

pub returns-then-j-c : goal.returns-then-j-c
returns-then-j-c c = size_wire _ _ _ c.args.net.now.tabled _ _ c.if-j-c.true c.capacity.ensures.0

pub returns-then-k-c : goal.returns-then-k-c
returns-then-k-c c =
    size_box _ _ _ c.args.net.now.tabled _ _ (omega arith) _ c.if-k-c.true (c.from.ensures ∙ rw c.box_body-body.ensures at c.byte_at.ensures)

pub returns-then-i-c : goal.returns-then-i-c
returns-then-i-c c =
    let n = c.args.net.now in
    size_input _ _ _ n.tabled c.args.j (c.args.j - n.counts.wires) (omega arith) (omega arith) (omega arith)

pub returns : goal.returns
returns c = size_output _ _ _ c.args.net.now.tabled _ _ (omega arith) _ (omega arith) (omega arith) c.room.ensures.0
