use mathlib.Core.Path.{sym, ap, ◌∙◌, subst}
use mathlib.Core.Bool.{true}
use Rattle.std.proofs.lemmas.Result.{err_from_is_err_and}
use Rattle.model.specs.Network.{Net}
use Rattle.model.specs.Calls.{held}
use Rattle.states.specs.Saved.{Holds}
use Rattle.opening.specs.Filled.{FilesFilled, StateFilled}
use Rattle.opening.specs.Opening.{Held}
use Rattle.opening.proofs.Laws.{files-refused, network_same, state_refused_in, state_open_in}
use Rattle.opening.proofs.open_state.Goals as goal

pub returns-in_err-opened : goal.returns-in_err-opened
unfolding FilesFilled StateFilled
returns-in_err-opened c =
    let p = err_from_is_err_and c.from_residual.result c.from_residual.ensures.1 in
    rw (p.1, p.2) (files-refused _ _ _ _ _ c.in_err-opened.ensures)

pub feed_of-feed-requires : goal.feed_of-feed-requires
unfolding FilesFilled
feed_of-feed-requires c = c.in_ok-opened.ensures

pub returns-in_err-held : goal.returns-in_err-held
unfolding FilesFilled Held StateFilled
returns-in_err-held c =
    let r = c.from_residual-in_err-held in
    let p = err_from_is_err_and r.result r.ensures.1 in
    let same = network_same _ _ _ _ _ _ _ c.feed_of-feed.ensures in
    rw (p.1, p.2) (state_refused_in _ _ _ _ _ _ _ c.in_ok-opened.ensures _ _ _ (ap (held true c.args.state.now) (sym same) ∙ c.in_err-held.ensures))

pub returns : goal.returns
unfolding FilesFilled Held StateFilled
returns c =
    let same = network_same _ _ _ _ _ _ _ c.feed_of-feed.ensures in
    state_open_in _ _ _ _ _ _ _ c.in_ok-opened.ensures _ (subst (λ (n : Net). Holds n true c.args.state.now) same c.in_ok-held.ensures) (λ i. (c.type_inv.state i).fits)
