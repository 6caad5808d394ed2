use Rattle.places.proofs.Laws.{wire_span_is}
use Rattle.places.proofs.Plan.wire_span.Goals as goal

pub returns : goal.returns
returns c = wire_span_is _ _ _ _ c.args.self.now.net.tabled c.args.self.now.placed _ _ _ c.requires c.from.ensures c.segment_span.ensures
