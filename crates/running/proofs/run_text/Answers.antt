use Rattle.printing.proofs.Pages.{as_said}
use Rattle.running.proofs.Runs.{text_is, Answers, refused_text, says_ended}
use Rattle.running.proofs.run_text.Goals as goal

pub returns-in_default : goal.returns-in_default
returns-in_default c =
    let run = c.run-answer in
    let h : Answers c.args.net.now c.args.tokens.now c.args.state.now _ _ _ run.result = record { long = c.requires.in_bounds; load = c.load.ensures; run = run.ensures.0; begun = run.ensures.1 } in
    text_is _ _ _ _ _ c.requires.in_bounds_2 (as_said _ (refused_text _ _ _ _ _ _ _ h _ _ c.in_default.is c.refusal_of.ensures) c.refused_text.ensures)

pub returns : goal.returns
returns c =
    let run = c.run-answer in
    let h : Answers c.args.net.now c.args.tokens.now c.args.state.now _ _ _ run.result = record { long = c.requires.in_bounds; load = c.load.ensures; run = run.ensures.0; begun = run.ensures.1 } in
    text_is _ _ _ _ _ c.requires.in_bounds_2 (as_said _ (says_ended _ _ _ _ _ _ _ h _ c.in-Ok.is) c.ended_text.ensures)
