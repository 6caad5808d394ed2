use Rattle.lookup.proofs.Laws.{rule_read_lem}
use Rattle.lookup.proofs.Net.rule_at.Goals as goal

pub returns : goal.returns
returns c =
    let h = c.requires in
    (rule_read_lem _ _ _ c.args.self.now.tabled _ _ _ _ _ _ h.b_lt_boxes h.r_in_bounds c.from.ensures c.entry-first.ensures.0 c.from-2.ensures c.entry.ensures.0, c.entry.ensures.1)
