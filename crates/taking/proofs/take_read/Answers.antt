use native.Mathlib.Omega.{arith}
use Rattle.sights.proofs.Ports.{ins_count}
use Rattle.taking.proofs.Reading.{left_first, left_last, left_there, left_asks, left_next}
use Rattle.taking.proofs.take_read.Goals as goal

pub box_body-ports-requires : goal.box_body-ports-requires
box_body-ports-requires c = c.requires.can_read.known

pub loop-j-init : goal.loop-j-init
loop-j-init c =
    let h = c.requires.standing in
    let few = ins_count _ _ _ h.tabled _ c.requires.can_read.known _ _ _ c.box_body-ports.ensures c.byte_at.ensures c.from-n.ensures in
    (few.0, left_first _ _ _ _ _ _ _ _ _ h c.requires.can_read)

pub skip_pattern-next-requires : goal.skip_pattern-next-requires
skip_pattern-next-requires c = let inv = c.loop-j.invariant in left_there _ _ _ _ _ _ _ _ _ _ _ inv.1 (omega (arith, inv.0))

pub take_at-requires : goal.take_at-requires
take_at-requires c =
    let inv = c.loop-j.invariant in
    let asks = left_asks _ _ _ _ _ _ _ _ _ _ _ inv.1 (omega (arith, inv.0)) _ _ c.skip_pattern-next.ensures c.byte_at-code.ensures _ c.requires.can_read.known in
    record { standing = inv.1.became.stands; can_read_at = asks }

pub loop-j-preserved : goal.loop-j-preserved
loop-j-preserved c =
    let inv = c.loop-j.invariant in
    (inv.0, left_next _ _ _ _ _ _ _ _ _ _ _ inv.1 (omega (arith, inv.0)) _ _ c.skip_pattern-next.ensures c.byte_at-code.ensures _ c.take_at.ensures)

pub returns : goal.returns
returns c =
    let inv = c.loop-j.invariant in
    left_last _ _ _ _ _ _ _ _ _ _ _ (omega (arith, inv.0)) inv.1
