-- The loop keeps: from here the body ends where it does from its start.
use mathlib.Core.Path.{sym, ap, ◌∙◌}
use Rattle.rule.specs.inner.Rule.{is_symbol}
use Rattle.rule.proofs.Bodies.{symbol_test, body_on, body_stops, body_over}
use Rattle.rule.proofs.body_end.Goals as goal

pub returns-in_default : goal.returns-in_default
returns-in_default c =
    let other = symbol_test c.decode-word.result c.in_default.not-Symbol in
    let here = ap is_symbol (sym c.decode-word.ensures) ∙ other in
    sym (body_stops _ _ c.loop-at-test.true here) ∙ c.loop-at.invariant

pub loop-at-preserved : goal.loop-at-preserved
loop-at-preserved c =
    let here = ap is_symbol (sym c.decode-word.ensures ∙ c.in-Symbol.is) in
    sym (body_on _ _ c.loop-at-test.true here) ∙ c.loop-at.invariant

pub returns : goal.returns
returns c = sym (body_over _ _ c.loop-at-test.false) ∙ c.loop-at.invariant
