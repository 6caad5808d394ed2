use Rattle.putting.specs.Actors.{box_by}
use Rattle.putting.proofs.Sent.{SentLeft}
use Rattle.putting.proofs.Actor.put_sent.Given as goal

abbrev pub invariant-loop-out : goal.invariant-loop-out
invariant-loop-out l =
    let x = l.self in
    let net = x.site.now.plan.net in
    SentLeft net.file.now net.table.now x.site.now.plan.starts.now x.site.now.tokens.now l.initial.state net.counts x.env.now.vals x.env.now.types (box_by x).outs x.body.now l.outs l.from l.state l.at l.out
