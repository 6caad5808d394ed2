-- The rule of INC, and what is wrong with it after one change: reason and offset, computed on bytes.
-- Assumes nothing.
use Prim.Native.Nat.{ℕ}
use mathlib.Core.Path.{◌≡◌, refl}
use mathlib.Core.List.{List, [], ◌∷◌, ◌++◌}
use Rattle.model.specs.Opened.{opened}
use Rattle.model.specs.Rules.{Shape}
use Rattle.model.specs.declared.Reason.TheVariants.{Form, Limits, Types}
use Rattle.expressions.specs.Reading.{end_from}
use Rattle.rules.specs.Bodies.{pattern_codes, action_codes, part_end, stop_or, read_from, read_to}
use Rattle.std.specs.Prelude.{Ok}
use Rattle.typing.specs.Limits.{action_keeps, actions_keep, rule_keeps}
use Rattle.typing.specs.RuleFault.{refused, arity_of, form_fits, first_of, rule_fault}

-- a box that reads a signed 8 and writes a signed number of precision p
unfoldable pub box : ℕ → Shape
box p = record { ins = record { kind = 1; p = 8 } ∷ []; outs = record { kind = 1; p = p } ∷ []; vars = [] }

-- a pattern, the guard at 1, the action at 8, its expression at 9: the matched value at 10, and a literal 1 at 12 of this kind and p
unfoldable pub body : ℕ → ℕ → ℕ → List ℕ
body pattern kind p = pattern ∷ 0 ∷ 0 ∷ 1 ∷ 0 ∷ 0 ∷ 0 ∷ 1 ∷ 1 ∷ 10 ∷ 1 ∷ 0 ∷ 0 ∷ kind ∷ p ∷ 0 ∷ 0 ∷ 0 ∷ 1 ∷ []

-- good; a byte too much; an unknown kind: its action; a 17th rule; a precision of 31: its expression; an ignored input: the reference to it;
-- an unsigned literal: the operator over both; another wire: the action
pub faults : (
    rule_fault (box 8) 15 (body 1 1 8)
    ∷ rule_fault (box 8) 0 (body 1 1 8 ++ (0 ∷ []))
    ∷ rule_fault (box 8) 0 (body 1 5 8)
    ∷ rule_fault (box 8) 16 (body 1 1 8)
    ∷ rule_fault (box 8) 0 (body 1 1 31)
    ∷ rule_fault (box 8) 0 (body 0 1 8)
    ∷ rule_fault (box 8) 0 (body 1 2 8)
    ∷ rule_fault (box 9) 0 (body 1 1 8)
    ∷ []
    ) ≡ Ok tt ∷ refused Form 19 ∷ refused Form 8 ∷ refused Limits 0 ∷ refused Limits 9 ∷ refused Types 10 ∷ refused Types 9 ∷ refused Types 8 ∷ []
unfolding box body opened rule_fault form_fits first_of arity_of rule_keeps actions_keep action_keeps read_to read_from stop_or part_end end_from pattern_codes action_codes
faults = refl
