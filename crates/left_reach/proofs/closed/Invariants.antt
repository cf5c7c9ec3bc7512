-- The loop keeps the closure through the nonterminals below `via`.
use mathlib.Core.Path.{◌≡◌}
use Rattle.families.specs.inner.Reach.{closure}
use Rattle.left_reach.proofs.closed.Given as goal

abbrev pub invariant-loop-via : goal.invariant-loop-via
invariant-loop-via l = l.sets ≡ closure l.via l.initial.sets
