-- The loop keeps the chart filled up to the turn of the rank.
use Rattle.grammar.specs.Limits.{max_tabular_tokens}
use Rattle.tabular_promises.specs.inner.Filling.{turn, Fills}
use Rattle.tabular.proofs.filling.settle.Given as goal

abbrev pub invariant-loop-rank : goal.invariant-loop-rank
invariant-loop-rank l =
    Fills l.words l.stands l.initial.chart l.end max_tabular_tokens (turn l.start l.end 0) (turn l.start l.end l.rank) l.chart
