use Rattle.ports.proofs.Decoded.{end_is}
use Rattle.ports.proofs.end_of.Goals as goal

pub returns : goal.returns
returns c = end_is c.args.net.now _ c.args.at c.requires c.part.ensures.bytes
