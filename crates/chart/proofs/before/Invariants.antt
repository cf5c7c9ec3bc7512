-- The loop keeps what the places gone through give.
use mathlib.Core.Path.{◌≡◌}
use Prim.Native.Nat.{suc, ◌-◌, ◌≤◌}
use Rattle.tabular_promises.specs.inner.Chart.{gathered}
use Rattle.chart.proofs.before.Given as goal

abbrev pub invariant-loop-at : goal.invariant-loop-at
invariant-loop-at l = (l.at - l.start ≤ suc l.end - l.start) × (l.found ≡ gathered l.chart l.nonterminal l.set l.start (l.at - l.start))
