-- The loop keeps where the tokens gone through stand.
use mathlib.Core.Path.{◌≡◌}
use Rattle.event.specs.Events.{input_of}
use Rattle.tabular_promises.specs.inner.Places.{stands_to}
use Rattle.terminal_places.proofs.standing.Given as goal

abbrev pub invariant-loop-at : goal.invariant-loop-at
invariant-loop-at l = l.stands ≡ stands_to (input_of l.events) l.at
