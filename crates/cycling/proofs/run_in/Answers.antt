use mathlib.Core.Path.{refl, sym, ◌∙◌}
use native.Mathlib.Omega.{arith}
use Rattle.cycling.proofs.Rounds.{ran_first, ran_stops, ran_goes}
use Rattle.cycling.proofs.run_in.Goals as goal

pub loop-ending-init : goal.loop-ending-init
loop-ending-init c = ran_first _ _ _ _ _ _ _ c.requires.standing

pub overflow_sub-left : goal.overflow_sub-left
overflow_sub-left c = c.loop-ending.invariant.ongoing.within

pub one_pass-requires : goal.one_pass-requires
one_pass-requires c = record { standing = c.loop-ending.invariant.became.stands }

pub shape_of-state-in-Some : goal.shape_of-state-in-Some
shape_of-state-in-Some c = c.one_pass.ensures.1.long ∙ c.loop-ending.invariant.became.long

pub returns-in-Some : goal.returns-in-Some
returns-in-Some c = let y = c.one_pass.ensures in ran_stops _ _ _ _ _ _ _ _ _ c.loop-ending.invariant _ refl _ _ (sym c.in-Some.is ∙ y.0, y.1)

pub overflow_add-cycles : goal.overflow_add-cycles
overflow_add-cycles c =
    let y = c.one_pass.ensures in
    omega (arith, (ran_goes _ _ _ _ _ _ _ _ _ c.loop-ending.invariant _ refl _ (sym c.in-None.is ∙ y.0, y.1)).0, c.ranges.budget)

pub loop-ending-smaller : goal.loop-ending-smaller
loop-ending-smaller c =
    let y = c.one_pass.ensures in
    omega (arith, (ran_goes _ _ _ _ _ _ _ _ _ c.loop-ending.invariant _ refl _ (sym c.in-None.is ∙ y.0, y.1)).0)

pub loop-ending-preserved : goal.loop-ending-preserved
loop-ending-preserved c = let y = c.one_pass.ensures in (ran_goes _ _ _ _ _ _ _ _ _ c.loop-ending.invariant _ refl _ (sym c.in-None.is ∙ y.0, y.1)).1
