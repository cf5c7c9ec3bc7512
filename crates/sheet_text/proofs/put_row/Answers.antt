-- The loop keeps: the entries of the columns passed are put.
use mathlib.Core.Path.{ap}
use Rattle.text.proofs.Outputs.{puts_first, puts_next}
use Rattle.sheet_lines.specs.Lines.{table_entry_text}
use Rattle.sheet_text.proofs.put_row.Goals as goal

pub loop-column-init : goal.loop-column-init
loop-column-init c = puts_first _ _

pub loop-column-preserved : goal.loop-column-preserved
loop-column-preserved c = puts_next _ _ (ap table_entry_text c.word_at.ensures) c.loop-column.invariant c.put_entry.ensures
