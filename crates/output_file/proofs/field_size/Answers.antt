use Prim.Native.Nat.{ℕ, ◌+◌, ◌*◌}
use mathlib.Core.Path.{ap, ◌∙◌}
use native.Mathlib.Omega.{arith}
use Rattle.output_file.proofs.Laws.{output_at_lem, count_at}
use Rattle.output_file.proofs.field_size.Goals as goal

pub own_span-requires : goal.own_span-requires
own_span-requires c = c.requires.output.most

pub returns : goal.returns
returns c =
    let h = c.requires in
    let o = λ (i : ℕ). (c.type_inv.state i).fits in
    let part = output_at_lem _ _ _ _ c.args.plan.now.net.tabled h.saved o _ h.output in
    let count = count_at _ _ _ _ c.args.plan.now.net.tabled h.saved o _ h.output c.own_span.result.start _ c.own_span.ensures.start c.two_at.ensures.0 in
    (ap (λ (j : ℕ). 3 + 5 * j) count ∙ part.sized, omega (arith, count, part.few))
