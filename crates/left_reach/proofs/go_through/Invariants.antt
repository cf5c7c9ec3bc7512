-- The loop keeps what stands before `from`, with what is beyond, and what stands from there on, as it was.
use mathlib.Core.Path.{◌≡◌}
use lib.ListN.{get_or}
use Rattle.families.proofs.Through.{Walked}
use Rattle.left_reach.proofs.go_through.Given as goal

abbrev pub invariant-loop-bits : goal.invariant-loop-bits
invariant-loop-bits l = (l.beyond.bits ≡ get_or l.initial.sets l.via 0) × Walked l.via l.initial.sets l.sets l.bits-index
