-- The limits of a rule, with the offset of what passes one.
-- Assumes nothing.
use Rattle.std.specs.Prelude.{ℕ, ◌+◌, ◌&&◌, List, [], ◌∷◌, leb, ltb, length}
use Rattle.model.specs.Expressions.{size_of, expression_limits}
use Rattle.model.specs.Rules.{Rule, Action, nothing, bare, send, patterns_size, size_of_action, actions_size, Fit, fits, also, fit_if}

unfoldable pub action_keeps : ℕ → Action → Fit  -- an action at an offset: its expression follows its code
action_keeps at nothing = fits
action_keeps at (bare tag) = fits
action_keeps at (send tag e) = fit_if (expression_limits e) (at + 1)

unfoldable pub actions_keep : ℕ → List Action → Fit  -- from the left
actions_keep at [] = fits
actions_keep at (x ∷ xs) = also (action_keeps at x) (actions_keep (at + size_of_action x) xs)

-- 16 rules a box and 512 bytes a body, at 0; then the expressions from the left, each where it begins
unfoldable pub rule_keeps : ℕ → List ℕ → Rule → Fit
rule_keeps seen b r =
    let l = patterns_size r.ins + patterns_size r.vars in
    let m = l + size_of r.guard in
    also (fit_if (ltb seen 16 && leb (length b) 512) 0)
    (also (fit_if (expression_limits r.guard) l)
    (also (actions_keep m r.outs)
    (actions_keep (m + actions_size r.outs) r.sets)))
