use mathlib.Core.Path.{◌≡◌}
use native.Mathlib.Omega.{arith}
use borrow.Author.Rules.{rules}
use lib.ListN.{replicate}
use Rattle.states.proofs.Loads.{cleared, load_first, load_next, load_last}
use Rattle.states.proofs.load.Goals as goal

pub loop-k-init : goal.loop-k-init
loop-k-init c =
    let net = c.args.plan.now.net in
    let zeros : c.fill.new.self ≡ replicate c.size-size.result 0 = search rules in
    load_first net.file.now net.table.now net.counts net.tabled _ _ (cleared c.args.state.now _ _ _ c.size-size.ensures zeros)

pub loop-k-preserved : goal.loop-k-preserved
loop-k-preserved c =
    let l = c.loop-k in
    let net = c.args.plan.now.net in
    load_next net.file.now net.table.now net.counts net.tabled l.k _ l.state _ (omega arith) l.invariant c.load_box.ensures

pub returns : goal.returns
returns c =
    let l = c.loop-k in
    let net = c.args.plan.now.net in
    let zeros : c.fill.new.self ≡ replicate c.size-size.result 0 = search rules in
    load_last net.file.now net.table.now net.counts net.tabled l.k _ l.state _ (omega arith) (cleared c.args.state.now _ _ _ c.size-size.ensures zeros) l.invariant
