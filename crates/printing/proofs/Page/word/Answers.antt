use mathlib.Core.Path.{sym, ap}
use Rattle.model.specs.Printing.{ending_word}
use Rattle.printing.proofs.Texts.{as_said}
use Rattle.printing.proofs.Page.word.Goals as goal

pub returns-in-Idle : goal.returns-in-Idle
unfolding ending_word
returns-in-Idle c = as_said (sym (ap ending_word c.in-Idle.is)) c.text.ensures

pub returns-in-Spent : goal.returns-in-Spent
unfolding ending_word
returns-in-Spent c = as_said (sym (ap ending_word c.in-Spent.is)) c.text-in-Spent.ensures

pub returns-in-Fault : goal.returns-in-Fault
unfolding ending_word
returns-in-Fault c = as_said (sym (ap ending_word c.in-Fault.is)) c.text-in-Fault.ensures
