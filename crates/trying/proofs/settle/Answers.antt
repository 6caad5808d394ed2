use Rattle.typing.proofs.Wholes.{ins_read}
use Rattle.trying.proofs.Settling.{fits_in_lem, at_guard, settled_as}
use Rattle.trying.proofs.settle.Goals as goal

pub scope-requires : goal.scope-requires
scope-requires c =
    let w = c.requires.ruled in
    record { ins_bound = (w.few_ins, w.few_vars); b_value = ins_read _ _ _ w.laid }

pub invariant_of-env : goal.invariant_of-env
invariant_of-env c = let h = c.requires in record { fits = fits_in_lem _ _ _ _ h.ruled _ c.scope.ensures _ h.small.each }

pub judge-requires : goal.judge-requires
judge-requires c =
    let h = c.requires in
    at_guard _ _ _ _ h.ruled _ c.scope.ensures _ h.guard

pub returns : goal.returns
returns c =
    let h = c.requires in
    settled_as _ _ _ _ h.ruled _ c.scope.ensures _ _ c.judge.ensures
