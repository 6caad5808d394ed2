use Rattle.std.proofs.Common.{rules, get_or, ◌+◌, ◌*◌, ◌∙◌}
use Rattle.model.specs.Expressions.{type_at}
use Rattle.shapes.specs.Shapes.{Lays, type_in}
use Rattle.shapes.proofs.Laws.{shape_is}
use Rattle.shapes.proofs.shape_in.Goals as goal

pub returns : goal.returns
returns c =
    let a = c.args in
    let ins : Lays c.put_types.new.types c.from-i.result (λ k. type_in a.net.now a.table.now a.wires (get_or a.body.now (3 + k) 0)) = record { each = λ k h. search (rules, c.put_types.ensures k h) } in
    let outs : Lays c.put_types-2.new.types c.from-n.result (λ k. type_in a.net.now a.table.now a.wires (get_or a.body.now (3 + c.from-i.result + k) 0)) = record { each = λ k h. search (rules, c.put_types-2.ensures k h) } in
    let vars : Lays c.put_types-3.new.types c.from-v.result (λ k. type_at a.body.now (3 + c.from-i.result + c.from-n.result + 6 * k)) = record { each = λ k h. search (rules, c.put_types-3.ensures k h) } in
    shape_is _ _ _ _ _ _ _ (c.from-i.ensures ∙ c.byte_at.ensures) (c.from-n.ensures ∙ c.byte_at-2.ensures) (c.from-v.ensures ∙ c.byte_at-3.ensures) _ _ _ c.requires.body_fits ins outs vars
