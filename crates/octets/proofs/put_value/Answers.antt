use Rattle.octets.proofs.Laws.{put_value}
use Rattle.octets.proofs.put_value.Goals as goal

pub returns : goal.returns
returns c =
    let a = c.args in
    put_value a.s.now c.put_four.new.s a.z _ c.requires.1 c.pattern.ensures.0 c.put_four.ensures
