-- The worked histories, by computation.
use mathlib.Core.Path.{refl}
use Rattle.usage.specs.Counters.{each_counter}
use Rattle.usage.specs.Histories.{counted_answer, record_of}
use Rattle.usage.specs.examples.Rows.{Worked}

pub worked : Worked
unfolding record_of counted_answer each_counter
worked = record { from_unused = refl; at_the_end = refl; before_the_end = refl }
