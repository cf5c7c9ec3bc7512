-- The loop keeps the chart filled up to the turn of the length.
use Rattle.event.specs.Events.{input_of}
use Rattle.grammar.specs.Encoding.{grammar_of}
use Rattle.tabular_promises.specs.inner.Chart.{Long}
use Rattle.tabular_promises.specs.inner.Filling.{turn, FilledTo}
use Rattle.tabular.proofs.filling.fill.Given as goal

abbrev pub invariant-loop-length : goal.invariant-loop-length
invariant-loop-length l =
    Long l.chart × FilledTo (grammar_of l.words) (input_of l.events) (turn 0 l.length 0) l.chart
