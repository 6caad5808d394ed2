-- The fault of a rule of a box of a shape: the reason, and where in the body it lies.
-- Assumes nothing.
use Rattle.std.specs.Prelude.{ℕ, List, length, Result, Ok, Err, ⊤}
use Rattle.model.specs.Rules.{Shape, rule_read, Fit, fits, fails, fit_if, rule_fits}
use Rattle.model.specs.NetworkFile.{rule_in, rule_form}
use Rattle.model.specs.declared.Reason.{Reason}
use Rattle.model.specs.declared.Reason.TheVariants.{Form, Limits, Types}
use Rattle.model.specs.Reasons.{reason_number}
use Rattle.shapes.specs.declared.Arity.{Arity}
use Rattle.rules.specs.Bodies.{read_to}
use Rattle.typing.specs.Limits.{rule_keeps}
use Rattle.typing.specs.declared.RuleFault.{RuleFault}

unfoldable pub arity_of : Shape → Arity  -- how many parts its rules have
arity_of sh = record { ins = length sh.ins; outs = length sh.outs; vars = length sh.vars }

-- the parts take the whole body; if not, the offset to which it can be read
unfoldable pub form_fits : Shape → List ℕ → Fit
form_fits sh b = fit_if (rule_form sh b) (read_to (arity_of sh) b)

-- refused for a reason, at an offset
abbrev pub refused : Reason → ℕ → Result ⊤ RuleFault
refused x k = Err (record { reason = x; at = k })

-- form, limits, types: the first that fails gives the reason and the offset
unfoldable pub first_of : Fit → Fit → Fit → Result ⊤ RuleFault
first_of (fails k) limits types = refused Form k
first_of fits (fails k) types = refused Limits k
first_of fits fits (fails k) = refused Types k
first_of fits fits fits = Ok tt

-- the fault of a rule with `seen` of its box before it
unfoldable pub rule_fault : Shape → ℕ → List ℕ → Result ⊤ RuleFault
rule_fault sh seen b = let r = rule_read (rule_in sh b) in first_of (form_fits sh b) (rule_keeps seen b r) (rule_fits sh r)

unfoldable pub number_of : Result ⊤ RuleFault → ℕ  -- the paper's number: 0 where all is well
number_of (Ok t) = 0
number_of (Err f) = reason_number f.reason
