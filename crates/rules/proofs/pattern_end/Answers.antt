use Rattle.std.proofs.Common.{rules, ℕ, ◌+◌, Some, sym, ap, ◌∙◌, arith}
use Rattle.rules.specs.Bodies.{pattern_codes}
use Rattle.rules.proofs.Ends.{pattern_none, pattern_unknown, pattern_cut, pattern_whole}
use Rattle.rules.proofs.pattern_end.Goals as goal

pub returns-in_err-c : goal.returns-in_err-c
returns-in_err-c c = c.from_residual.ensures ∙ pattern_none (pattern_codes c.args.var) c.args.b.now c.args.at (search rules)

pub returns-then-not-pattern_known : goal.returns-then-not-pattern_known
returns-then-not-pattern_known c =
    pattern_unknown (pattern_codes c.args.var) c.args.b.now c.args.at c.in_ok-c.field-0.now (search rules) (search rules) (sym c.pattern_known.ensures ∙ c.if-not-pattern_known.true)

pub returns-then-b-at : goal.returns-then-b-at
returns-then-b-at c =
    pattern_cut (pattern_codes c.args.var) c.args.b.now c.args.at c.in_ok-c.field-0.now (search rules) (search rules) (sym c.pattern_known.ensures ∙ c.if-not-pattern_known.false) (omega arith)

pub returns : goal.returns
returns c =
    let known = sym c.pattern_known.ensures ∙ c.if-not-pattern_known.false in
    ap (λ (n : ℕ). Some (c.args.at + n)) c.pattern_size-n.ensures
    ∙ pattern_whole (pattern_codes c.args.var) c.args.b.now c.args.at c.in_ok-c.field-0.now (search rules) (search rules) known (omega arith)
