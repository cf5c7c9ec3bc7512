-- A stored value as it is read, stored again, number by number.
use Rattle.std.specs.Prelude.{map, ℕ, leb}
use Rattle.base.specs.Choice.{choose}
use Rattle.kept_marks.specs.declared.Progress.{Progress}
use Rattle.kept_marks.specs.Stored.{unset_code, length_read}

abbrev pub cleared_beyond : ℕ → ℕ → ℕ
cleared_beyond n x = choose (leb x n) x unset_code

abbrev pub read_progress : Progress → Progress
read_progress p = record { length = length_read p; marks = map (cleared_beyond (length_read p)) p.marks }
