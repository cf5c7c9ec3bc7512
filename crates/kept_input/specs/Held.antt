-- A kept input as one value: what it holds, and how it is stored.
use Rattle.std.specs.Prelude.{List, ℕ}
use Rattle.kept_steps.specs.Histories.{Kept}
use Rattle.kept_marks.specs.declared.Progress.{Progress}
use Rattle.kept_marks.specs.Stored.{held_by, progress_of, stored_events}
use Rattle.kept_input.specs.declared.KeptInput.{KeptInput}

abbrev pub kept_input : List ℕ → Progress → KeptInput
kept_input events p = record { events = events; progress = p }

abbrev pub held_input : KeptInput → Kept
held_input k = held_by k.events k.progress

abbrev pub stored_input : List ℕ → Kept → KeptInput
stored_input old s = kept_input (stored_events old s) (progress_of s)
