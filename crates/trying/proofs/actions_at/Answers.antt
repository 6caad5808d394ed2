use mathlib.Core.Path.{◌≡◌, refl, sym, ap, ◌∙◌}
use native.Mathlib.Omega.{arith}
use Rattle.model.specs.Rules.{patterns_size}
use Rattle.rules.specs.Bodies.{outs_at}
use Rattle.rules.proofs.Laying.{laid}
use Rattle.trying.proofs.Offsets.{here_stands, here_next, here_guard, guard_there, guard_end}
use Rattle.trying.proofs.Searching.{size_small}
use Rattle.trying.proofs.actions_at.Goals as goal
use Rattle.trying.proofs.actions_at.Goals.{After-loop-pattern}

pub loop-pattern-init : goal.loop-pattern-init
unfolding patterns_size
loop-pattern-init c = refl

-- the pattern of this turn
pub overflow_add-at : goal.overflow_add-at
overflow_add-at c =
    let s = here_stands _ _ _ (laid _ _ _ c.requires.parted.whole) _ _ c.loop-pattern.invariant c.loop-pattern-test.true in
    omega (arith, s.inside, c.pattern_size-at.ensures, size_small c.byte_at.result, c.well_formed.0.0)

pub loop-pattern-preserved : goal.loop-pattern-preserved
loop-pattern-preserved c =
    here_next _ _ _ (laid _ _ _ c.requires.parted.whole) _ _ c.loop-pattern.invariant c.loop-pattern-test.true _ _ c.byte_at.ensures c.pattern_size-at.ensures

-- the guard begins where the patterns end
at_guard : (c : After-loop-pattern) → c.loop-pattern.at ≡ c.requires.parted.parts.guard
at_guard c = here_guard _ _ _ (laid _ _ _ c.requires.parted.whole) _ _ c.loop-pattern.invariant c.loop-pattern-test.false

pub skip-requires : goal.skip-requires
skip-requires c = guard_there _ _ _ (laid _ _ _ c.requires.parted.whole) _ (at_guard c)

pub returns : goal.returns
unfolding outs_at
returns c =
    let at = at_guard (goal.at.returns c).After-loop-pattern in
    c.skip.ensures ∙ guard_end _ _ _ (laid _ _ _ c.requires.parted.whole) _ at ∙ sym (ap outs_at c.requires.parted.whole)
