use Rattle.putting.specs.Actors.{vars_by}
use Rattle.putting.proofs.Kept.{KeptLeft}
use Rattle.putting.proofs.Actor.keep_new.Given as goal

abbrev pub invariant-loop-var : goal.invariant-loop-var
invariant-loop-var l =
    let x = l.self in
    let net = x.site.now.plan.net in
    KeptLeft net.file.now net.table.now x.site.now.plan.starts.now x.site.now.tokens.now l.initial.state net.counts x.k.0 x.env.now.vals x.env.now.types (vars_by x l.initial.state) x.body.now l.vars l.from l.state l.at l.var
