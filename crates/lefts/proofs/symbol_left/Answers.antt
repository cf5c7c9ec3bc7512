-- By the kind of symbol, by whether there is a set for it, and by whether the nonterminal is nullable.
use mathlib.Core.Path.{sym, ap, ◌∙◌}
use native.Mathlib.Omega.{arith}
use Rattle.lookahead.specs.Elements.{has}
use Rattle.families.proofs.LeftPasses.{left_on, left_stop}
use Rattle.lefts.proofs.symbol_left.Goals as goal

pub returns-then-contains : goal.returns-then-contains
returns-then-contains c =
    left_on _ _ c.in-Nonterminal.is (omega (arith, c.if-at-ge-SETS.false)) c.alone-own.ensures
    (sym (c.contains.ensures ∙ ap (has _) c.nothing.ensures) ∙ c.if-contains.true) c.join.ensures

pub returns-else-contains : goal.returns-else-contains
returns-else-contains c =
    left_stop _ _ c.in-Nonterminal.is (omega (arith, c.if-at-ge-SETS.false)) c.alone-own.ensures
    (sym (c.contains.ensures ∙ ap (has _) c.nothing.ensures) ∙ c.if-contains.false)
