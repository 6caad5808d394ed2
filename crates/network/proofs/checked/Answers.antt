use Prim.Native.Nat.{◌≤◌}
use mathlib.Core.Path.{sym, ◌∙◌}
use native.Mathlib.Omega.{arith}
use borrow.Author.Rules.{rules}
use lib.ListN.{length}
use Rattle.std.proofs.lemmas.Result.{err_from_is_err_and}
use Rattle.model.specs.Reasons.{reason_number}
use Rattle.model.proofs.Accepted.{fields_valid}
use Rattle.table.proofs.Lengths.{wires_n}
use Rattle.index.specs.Verdicts.{verdict_in}
use Rattle.network.proofs.Laws.{too_long, bad_field, odd_ports, all_good}
use Rattle.network.proofs.checked.Goals as goal

pub returns-then-file-gt-MOST : goal.returns-then-file-gt-MOST
unfolding verdict_in reason_number
returns-then-file-gt-MOST c = record { result_after = sym (too_long _ c.if-file-gt-MOST.true); fit = tt }

pub returns-in_err-counts : goal.returns-in_err-counts
unfolding verdict_in
returns-in_err-counts c =
    let p = err_from_is_err_and c.from_residual.result c.from_residual.ensures.1 in
    record { result_after = rw (p.1, p.2) (sym (bad_field _ c.if-file-gt-MOST.false _ _ c.in_err-counts.ensures.result_after)); fit = rw p.1 tt }

pub odd_wire-w-requires-clause-valid : goal.odd_wire-w-requires-clause-valid
unfolding verdict_in
odd_wire-w-requires-clause-valid c = fields_valid _ _ (sym c.in_ok-counts.ensures.result_after)

pub returns-then-w-counts : goal.returns-then-w-counts
unfolding verdict_in reason_number
returns-then-w-counts c =
    let long : 656 ≤ length c.index.new.tab = search rules in
    let i = c.in_ok-counts.ensures in
    record {
      result_after = sym (odd_ports _ c.if-file-gt-MOST.false _ _ i.result_after c.odd_wire-w.ensures (omega (arith, c.if-w-counts.true, wires_n _ _ long i.fit)));
      fit = tt;
    }

pub returns : goal.returns
unfolding verdict_in
returns c =
    let long : 656 ≤ length c.index.new.tab = search rules in
    let i = c.in_ok-counts.ensures in
    record {
      result_after = sym (all_good _ c.if-file-gt-MOST.false _ _ i.result_after c.odd_wire-w.ensures (omega (arith, c.if-w-counts.false, wires_n _ _ long i.fit)));
      fit = i.fit;
    }
