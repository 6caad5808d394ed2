use Prim.Native.Nat.{ℕ, ◌+◌, ◌≤◌}
use mathlib.Core.Path.{sym, ap, ◌∙◌}
use mathlib.Core.List.{List, ◌++◌}
use native.Mathlib.Omega.{arith}
use lib.ListN.{length, drop}
use borrow.Author.Rules.{rules}
use borrow.Rule.Slice.PartMut.{mid_len}
use Rattle.lookup.specs.Views.{network_of}
use Rattle.output_file.proofs.Laws.{is_process, no_process, room_for, file_all, written_first, written-room, written_next, written_last}
use Rattle.output_file.proofs.write_file.Goals as goal

pub loop-k-init : goal.loop-k-init
loop-k-init c =
    let n = c.args.plan.now.net in
    record { inside = omega arith; written = written_first (network_of n) c.args.state.now (n.counts.boxes + n.counts.inputs) c.args.out.now }

pub write_field-at-requires-clause-k_in_bounds : goal.write_field-at-requires-clause-k_in_bounds
write_field-at-requires-clause-k_in_bounds c =
    let l = c.loop-k in
    let net = c.args.plan.now.net in
    let less = is_process _ _ c.args.state.now _ net.tabled l.k (omega arith) in
    let room = room_for _ _ c.args.state.now _ net.tabled c.args.out.now c.requires.state_in_bounds in
    let part = mid_len l.at (length c.args.out.now) l.out (omega arith) in
    omega (arith, part, written-room _ _ _ c.args.out.now l.out l.at l.k l.invariant.written less room)

pub overflow_add-at : goal.overflow_add-at
overflow_add-at c =
    let l = c.loop-k in
    let net = c.args.plan.now.net in
    let less = is_process _ _ c.args.state.now _ net.tabled l.k (omega arith) in
    let room = room_for _ _ c.args.state.now _ net.tabled c.args.out.now c.requires.state_in_bounds in
    let w = c.write_field-at in
    let small : l.at + w.result ≤ length c.args.out.now = omega (arith, w.ensures.0, written-room _ _ _ c.args.out.now l.out l.at l.k l.invariant.written less room) in
    search rules

pub loop-k-preserved : goal.loop-k-preserved
loop-k-preserved c =
    let l = c.loop-k in
    let net = c.args.plan.now.net in
    let less = is_process _ _ c.args.state.now _ net.tabled l.k (omega arith) in
    let room = room_for _ _ c.args.state.now _ net.tabled c.args.out.now c.requires.state_in_bounds in
    let w = c.write_field-at in record {
      inside = omega (arith, w.ensures.0, written-room _ _ _ c.args.out.now l.out l.at l.k l.invariant.written less room);
      written = written_next _ _ _ c.args.out.now l.out l.at l.k l.invariant.written w.result w.new.out less room w.ensures.0 w.ensures.1;
    }

pub returns : goal.returns
returns c =
    let l = c.loop-k in
    let net = c.args.plan.now.net in
    let none = no_process _ _ c.args.state.now _ net.tabled l.k (omega arith) in
    written_last _ _ _ c.args.out.now l.out l.at l.k l.invariant.written none
    ∙ ap (λ (x : List ℕ). x ++ drop (length x) c.args.out.now) (sym (file_all _ _ c.args.state.now _ net.tabled))
