use Rattle.std.proofs.Common.{ℕ, List, drop, ◌+◌, sym, ap, ◌∙◌, arith}
use Rattle.ports.specs.Ports.{tally_of}
use Rattle.ports.proofs.Counts.{tally_more, tally_end}
use Rattle.ports.proofs.tally.Goals as goal

pub loop-w-preserved : goal.loop-w-preserved
loop-w-preserved c =
    let l = c.loop-w in
    let ws = c.args.ws.now in
    ap (λ (t : List ℕ). tally_of t (drop (l.w-index + 1) ws)) c.touch.ensures ∙ sym (tally_more l.counts ws l.w-index (omega arith)) ∙ l.invariant

pub returns : goal.returns
returns c = let l = c.loop-w in sym (tally_end l.counts c.args.ws.now l.w-index (omega arith)) ∙ l.invariant
