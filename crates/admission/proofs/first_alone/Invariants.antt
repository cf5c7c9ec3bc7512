-- The loop keeps what the search finds from the index on.
use mathlib.Core.Path.{◌≡◌}
use lib.ListN.{drop}
use Rattle.admission.specs.Admission.{alone_from, first_alone}
use Rattle.admission.proofs.first_alone.Given as goal

abbrev pub invariant-loop-at : goal.invariant-loop-at
invariant-loop-at l = alone_from l.opened l.at (drop l.at l.words) ≡ first_alone l.words
