use borrow.Author.Rules.{rules}
use Rattle.std.proofs.lemmas.Result.{err_from_is_err_and}
use Rattle.opening.specs.Filled.{NetworkFilled, FilesFilled}
use Rattle.opening.proofs.Laws.{net_refused, tokens_refused, tokens_good}
use Rattle.opening.proofs.open_files.Goals as goal

pub returns-in_err-opened : goal.returns-in_err-opened
unfolding NetworkFilled FilesFilled
returns-in_err-opened c =
    let p = err_from_is_err_and c.from_residual.result c.from_residual.ensures.1 in
    rw (p.1, p.2) (net_refused _ _ _ _ c.in_err-opened.ensures)

pub invariant_of-net : goal.invariant_of-net
unfolding NetworkFilled
invariant_of-net c = record { tabled = c.in_ok-opened.ensures.tabled }

pub returns-in_err-map_err : goal.returns-in_err-map_err
unfolding NetworkFilled FilesFilled
returns-in_err-map_err c =
    let r = c.from_residual-in_err-map_err in
    let p = err_from_is_err_and r.result r.ensures.1 in
    rw (p.1, p.2) (tokens_refused _ _ _ _ _ c.in_ok-opened.ensures.tabled _ c.map_err.result _ c.token_file.ensures (λ k y h. search rules) c.map_err.ensures.cases _ c.in_err-map_err.was)

pub returns : goal.returns
unfolding NetworkFilled FilesFilled
returns c =
    let o = c.in_ok-opened.ensures in
    let g = tokens_good _ _ _ _ _ o.tabled _ c.map_err.result _ c.token_file.ensures (λ k y h. search rules) c.map_err.ensures.cases _ c.in_ok-map_err.was in
    record { net = o; tokens = g.0; fields = g.1 }
