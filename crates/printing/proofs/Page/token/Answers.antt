use native.Mathlib.Omega.{arith}
use Rattle.printing.proofs.Texts.{then_on, as_said}
use Rattle.printing.proofs.Numbers.{shown_plain, shown_start, shown_end, shown_data}
use Rattle.printing.proofs.Page.token.Goals as goal

pub returns-in-0 : goal.returns-in-0
returns-in-0 c = as_said (shown_plain c.args.token c.requires c.in-0.is) c.signed.ensures

pub returns-in-1 : goal.returns-in-1
returns-in-1 c = as_said (shown_start c.args.token c.in-1.is) c.text.ensures

pub returns-in-2 : goal.returns-in-2
returns-in-2 c = as_said (shown_end c.args.token c.in-2.is) c.text-in-2.ensures

pub returns-in_default : goal.returns-in_default
returns-in_default c = as_said (shown_data c.args.token c.requires (omega arith) (omega arith) (omega arith)) (then_on c.byte.ensures c.signed-in_default.ensures)
