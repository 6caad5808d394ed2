use mathlib.Core.Path.{◌∙◌}
use Rattle.lookup.proofs.Laws.{rules_read}
use Rattle.lookup.proofs.Net.rules_of.Goals as goal

pub returns : goal.returns
returns c =
    c.saturating_sub.ensures ∙ rules_read _ _ _ c.args.self.now.tabled _ _ _ _ c.requires c.from-k.ensures c.entry-first.ensures.0 c.rules_end.ensures
