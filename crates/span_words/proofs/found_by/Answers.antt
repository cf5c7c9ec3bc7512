-- By the test: the nonterminal is joined, or not.
use mathlib.Core.Path.{ap, ◌∙◌}
use Rattle.lookahead.specs.inner.Operations.{join}
use Rattle.families.specs.inner.Nonterminals.{alone}
use Rattle.tabular_promises.specs.inner.Chart.{one_nonterminal, with_nonterminal}
use Rattle.span_words.proofs.found_by.Goals as goal

pub returns-then-there : goal.returns-then-there
unfolding with_nonterminal one_nonterminal join alone
returns-then-there c = rw c.if-there.true (c.join.ensures.is ∙ ap (join c.args.found.bits) c.alone.ensures.is)

pub returns-else-there : goal.returns-else-there
unfolding with_nonterminal
returns-else-there c = rw c.if-there.false
