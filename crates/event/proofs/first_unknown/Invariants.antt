-- The loop keeps what the search finds from the index on.
use mathlib.Core.Path.{◌≡◌}
use lib.ListN.{drop}
use Rattle.event.specs.Events.{input_of}
use Rattle.event.specs.Unknown.{unknown_from}
use Rattle.event.proofs.first_unknown.Given as goal

abbrev pub invariant-loop-at : goal.invariant-loop-at
invariant-loop-at l = unknown_from l.terminals l.at (drop l.at (input_of l.events)) ≡ unknown_from l.terminals 0 (input_of l.events)
