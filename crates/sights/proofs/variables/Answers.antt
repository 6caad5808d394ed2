use Rattle.sights.proofs.Sights.{variables_are}
use Rattle.sights.proofs.variables.Goals as goal

pub returns : goal.returns
returns c =
    variables_are _ _ _ _ _ _ c.requires.standing _ c.requires.k_lt_boxes _ c.own_part-own.ensures _ _ _ _
    c.var_at.ensures c.var_at-2.ensures c.var_at-3.ensures c.var_at-4.ensures
