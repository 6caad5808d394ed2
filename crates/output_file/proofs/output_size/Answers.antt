use Prim.Native.Nat.{ℕ, ◌+◌}
use mathlib.Core.Path.{sym, ap, ◌∙◌}
use mathlib.Core.List.{List}
use native.Mathlib.Omega.{arith}
use lib.ListN.{length, length-append}
use Rattle.lookup.specs.Views.{network_of}
use Rattle.output_file.specs.Files.{field_on, file_from}
use Rattle.output_file.proofs.Laws.{is_process, no_process, file_all, file_turn, file_done}
use Rattle.output_file.proofs.output_size.Goals as goal

pub overflow_add-size : goal.overflow_add-size
overflow_add-size c = omega (arith, c.field_size-size.ensures.1, c.args.plan.now.net.tabled.within)

pub loop-k-preserved : goal.loop-k-preserved
loop-k-preserved c =
    let l = c.loop-k in
    let net = c.args.plan.now.net in
    let n = network_of net in
    let turn = file_turn n c.args.state.now l.k (is_process _ _ c.args.state.now _ net.tabled l.k (omega arith)) in
    let sum = ap (λ (x : List ℕ). length x) turn ∙ length-append (field_on n c.args.state.now l.k) (file_from n c.args.state.now (l.k + 1)) in
    record {
      few = omega (arith, c.field_size-size.ensures.1);
      left = omega (arith, sum, c.field_size-size.ensures.0);
    }

pub returns : goal.returns
returns c =
    let l = c.loop-k in
    let net = c.args.plan.now.net in
    let none = ap (λ (x : List ℕ). length x) (file_done (network_of net) c.args.state.now l.k (no_process _ _ c.args.state.now _ net.tabled l.k (omega arith))) in
    let all = ap (λ (x : List ℕ). length x) (file_all _ _ c.args.state.now _ net.tabled) in
    (omega (arith, l.invariant.left, none)) ∙ sym all
