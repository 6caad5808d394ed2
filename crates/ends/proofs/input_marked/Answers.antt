use mathlib.Core.Path.{ap}
use mathlib.Core.List.{List}
use Prim.Native.Nat.{◌-◌}
use native.Mathlib.Omega.{arith}
use lib.ListN.{length}
use Rattle.model.specs.declared.Token.{Token}
use Rattle.ends.proofs.Ends.{end_spent, end_left, not_full, input_marks}
use Rattle.ends.proofs.input_marked.Goals as goal

pub input_count-requires : goal.input_count-requires
input_count-requires c = (c.args.feed.now.noted.each (c.from.result - c.args.feed.now.site.plan.net.counts.boxes) (omega arith)).inside

pub returns-then-input_count-taken : goal.returns-then-input_count-taken
returns-then-input_count-taken c =
    let h = c.requires in
    let number = c.from.result - c.args.feed.now.site.plan.net.counts.boxes in
    let holds = (c.args.feed.now.noted.each number (omega arith)).holds in
    let m = input_marks _ _ _ _ _ _ h.standing c.args.k.0 number (omega arith) h.boxes_le_k h.k_bound in
    end_spent _ _ _ _ _ _ m c.own_count-taken.ensures (omega (arith, c.input_count.ensures, c.if-input_count-taken.true, ap (λ (ks : List Token). length ks) holds))

pub returns : goal.returns
returns c =
    let h = c.requires in
    let number = c.from.result - c.args.feed.now.site.plan.net.counts.boxes in
    let holds = (c.args.feed.now.noted.each number (omega arith)).holds in
    let m = input_marks _ _ _ _ _ _ h.standing c.args.k.0 number (omega arith) h.boxes_le_k h.k_bound in
    let free = not_full _ _ _ _ _ _ h.standing _ _ _ c.input_wire.ensures.0 c.wire_part-part.ensures _ c.is_full.ensures in
    end_left _ _ _ _ _ _ m c.own_count-taken.ensures _ (omega (arith, c.input_count.ensures, c.if-input_count-taken.false, ap (λ (ks : List Token). length ks) holds)) free
