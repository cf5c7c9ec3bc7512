-- The worked histories, by computation.
use mathlib.Core.Path.{refl}
use Rattle.kept_steps.specs.Histories.{step_fault, done, after_step, ran}
use Rattle.kept_marks.specs.Stored.{values_of, progress_of}
use Rattle.kept_marks.specs.examples.Rows.{rehearsed, undone, Worked}

pub worked : Worked
unfolding rehearsed undone step_fault done after_step ran values_of progress_of
worked = record { events = refl; set = refl; other = refl; cut = refl; gone = refl; none_such = refl }
