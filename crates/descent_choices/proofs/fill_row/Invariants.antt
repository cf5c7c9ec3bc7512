-- The loop keeps: the columns passed are written, and the rest is as it was.
use Rattle.descent_choices.proofs.ChoiceRows.{Writing}
use Rattle.descent_choices.proofs.fill_row.Given as goal

abbrev pub invariant-loop-column : goal.invariant-loop-column
invariant-loop-column l = Writing l.starts l.entries l.from l.to l.column l.initial.choices l.choices
