use Rattle.lookup.proofs.Tabled.{rule_inside}
use Rattle.lookup.proofs.Laws.{in-file}
use Rattle.lookup.proofs.Net.rule_body.Goals as goal

pub body_at-requires : goal.body_at-requires
body_at-requires c =
    (c.rule_at.ensures.1, in-file _ _ _ c.rule_at.ensures.0 (rule_inside _ _ _ c.args.self.now.tabled _ _ c.requires.b_lt_boxes c.requires.r_in_bounds))
