-- What is left of the file gives the whole, from the offset that the loop has come to.
-- Assumes nothing.
use mathlib.Core.Path.{◌≡◌, sym, ◌∙◌}
use native.Mathlib.Omega.{arith}
use Rattle.std.proofs.Common.{None}
use Rattle.std.proofs.lemmas.Result.{err_from_is_err_and}
use Rattle.places.specs.Standing.{bare_net}
use Rattle.token_file.proofs.Laws.{upto_first, upto_next, noted, end_none, end_some, types_known, too_long, bad_there, extra_there, good_tokens, good_fields}
use Rattle.token_file.proofs.token_file.Goals as goal

pub returns-then-tokens-gt16384 : goal.returns-then-tokens-gt16384
unfolding bare_net
returns-then-tokens-gt16384 c = too_long _ _ _ c.args.net.now.tabled _ c.args.fields.now c.if-tokens-gt16384.true

pub loop-i-init : goal.loop-i-init
loop-i-init c = (omega arith, upto_first _ _ _)

pub returns-in_err-end : goal.returns-in_err-end
unfolding bare_net
returns-in_err-end c =
    let p = err_from_is_err_and c.from_residual.result c.from_residual.ensures.1 in
    let l = c.loop-i in
    let h = c.args.net.now.tabled in
    let none : c.field_end.result ≡ None = c.in_err-end.ensures.ok_part in
    let same : c.in_err-end.field-0.0 ≡ l.at = (let e = rw none at c.in_err-end.ensures.value in cc) in
    let there = end_none _ _ (noted c.args.tokens.now l.fields l.i) l.i _ _ (types_known _ _ _ h _ c.loop-i-test.true) c.input_type-t.ensures.0 (sym none ∙ c.field_end.ensures) in
    rw (p.1, p.2, same) (bad_there _ _ _ h _ _ _ _ l.invariant.1 c.if-tokens-gt16384.false there)

pub loop-i-preserved : goal.loop-i-preserved
loop-i-preserved c =
    let l = c.loop-i in
    let h = c.args.net.now.tabled in
    let known = types_known _ _ _ h _ c.loop-i-test.true in
    let some = sym c.in_ok-end.ensures.ok_part ∙ c.field_end.ensures in
    let went = end_some _ _ (noted c.args.tokens.now l.fields l.i) l.i _ _ known c.input_type-t.ensures.0 c.in_ok-end.end some in
    (went.below, upto_next _ _ _ _ _ _ l.invariant.1 (omega (arith, h.within)) went)

pub returns-then-at-tokens : goal.returns-then-at-tokens
unfolding bare_net
returns-then-at-tokens c =
    extra_there _ _ _ c.args.net.now.tabled _ _ _ _ c.loop-i.invariant.1 c.if-tokens-gt16384.false c.loop-i-test.false c.if-at-tokens.true

pub returns : goal.returns
unfolding bare_net
returns c =
    let l = c.loop-i in
    let h = c.args.net.now.tabled in (
      good_tokens _ _ _ h _ _ _ _ l.invariant.1 c.if-tokens-gt16384.false c.loop-i-test.false c.if-at-tokens.false,
      good_fields _ _ _ h _ _ _ _ l.invariant.1 c.if-tokens-gt16384.false (omega arith) (omega (arith, h.within)) c.if-at-tokens.false,
    )
