-- The loop keeps the chart filled up to the turn of the start.
use Prim.Native.Nat.{◌+◌}
use Rattle.tabular_promises.specs.inner.Filling.{turn, Fills}
use Rattle.tabular.proofs.filling.fill_length.Given as goal

abbrev pub invariant-loop-start : goal.invariant-loop-start
invariant-loop-start l =
    Fills l.words l.stands l.initial.chart l.tokens l.tokens (turn 0 l.length 0) (turn l.start (l.start + l.length) 0) l.chart
