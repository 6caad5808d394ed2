use Rattle.octets.proofs.Laws.{four_written}
use Rattle.octets.proofs.put_four.Goals as goal

pub returns : goal.returns
returns c = rw (c.copy_from_slice.ensures.after, c.to_be_bytes.ensures, four_written c.args.n c.requires.1)
