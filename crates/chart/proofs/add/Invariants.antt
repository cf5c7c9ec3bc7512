-- The loop keeps the chart with the nonterminals gone through, from the first of the word on; where the word has no more, the others have nothing to add.
use mathlib.Core.Path.{◌≡◌}
use mathlib.Core.Logic.{◌⊎◌}
use Prim.Native.Nat.{◌≤◌}
use lib.Count.{count_trailing_zeros}
use Rattle.tabular_promises.specs.inner.Chart.{added_to}
use Rattle.chart.proofs.add.Given as goal

abbrev pub invariant-loop-at : goal.invariant-loop-at
invariant-loop-at l = ((l.at ≤ l.nonterminals) ⊎ (l.at ≤ count_trailing_zeros 32 l.word)) × (l.chart ≡ added_to l.initial.chart l.start l.end l.word l.at)
