use Rattle.std.proofs.Common.{ℕ, List, drop, ◌+◌, sym, ap, ◌∙◌, arith}
use Rattle.ports.specs.Ports.{tally_of, ports_at}
use Rattle.ports.proofs.Counts.{ports_more, ports_end}
use Rattle.ports.proofs.tally_fields.Goals as goal

pub loop-at-preserved : goal.loop-at-preserved
loop-at-preserved g c = λ f h.
    let l = c.loop-at in
    let offsets = c.args.offsets.now in
    ap (λ (t : List ℕ). tally_of t (ports_at f (drop (l.at-index + 1) offsets))) (c.tally.ensures ∙ ap (tally_of l.counts) (h _ _ c.ports.ensures))
    ∙ sym (ports_more l.counts f offsets l.at-index _ c.from.ensures (omega arith))
    ∙ l.invariant f h

pub returns : goal.returns
returns g c = λ f h. let l = c.loop-at in sym (ports_end l.counts f c.args.offsets.now l.at-index (omega arith)) ∙ l.invariant f h
