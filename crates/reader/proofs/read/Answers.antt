-- The tests before the first rule, in their order, and then the rules.
use mathlib.Core.Path.{sym, ◌∙◌}
use native.Mathlib.Omega.{arith}
use Rattle.grammar.proofs.Heading.{nonterminals_out, terminals_out, reading_rules}
use Rattle.reader.proofs.read.Goals as goal

pub returns-then-not-within : goal.returns-then-not-within
returns-then-not-within c =
    nonterminals_out _ (omega arith) c.in-Some.ensures.cases.0 c.decode.ensures c.declared-sizes.ensures (sym c.within.ensures ∙ c.if-not-within.true)

pub returns-then-not-within-2 : goal.returns-then-not-within-2
returns-then-not-within-2 c =
    terminals_out _ (omega arith) c.in-Some.ensures.cases.0 c.decode.ensures c.declared-sizes.ensures
    (sym c.within.ensures ∙ c.if-not-within.false)
    (sym c.within-2.ensures ∙ c.if-not-within-2.true)

pub returns : goal.returns
returns c =
    c.read_rules.ensures ∙ reading_rules _ (omega arith) c.in-Some.ensures.cases.0 c.decode.ensures c.declared-sizes.ensures
    (sym c.within.ensures ∙ c.if-not-within.false)
    (sym c.within-2.ensures ∙ c.if-not-within-2.false)
