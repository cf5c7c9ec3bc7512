-- The loop keeps: the columns passed are written, and the rest is as it was.
use native.Mathlib.Omega.{arith}
use Rattle.descent_choices.proofs.ChoiceRows.{placed, still_zero, row_filled}
use Rattle.descent_choices.proofs.fill_row.Goals as goal

pub write_choice-requires : goal.write_choice-requires
write_choice-requires c =
    let g = c.requires in
    (omega (arith, g, placed g), still_zero g c.loop-column.invariant (omega arith))

pub returns : goal.returns
returns c = row_filled c.requires c.loop-column.invariant (omega arith) (omega arith)
