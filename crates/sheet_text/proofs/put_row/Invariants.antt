-- The loop keeps: the entries of the columns passed are put.
use Prim.Native.Nat.{◌+◌}
use Rattle.text.specs.inner.Outputs.{Puts}
use Rattle.text.specs.Writing.{up_to}
use Rattle.sheet_lines.specs.Lines.{sheet_word_at, table_entry_text}
use Rattle.sheet_text.proofs.put_row.Given as goal

abbrev pub invariant-loop-column : goal.invariant-loop-column
invariant-loop-column l = Puts (up_to l.column (λ c. table_entry_text (sheet_word_at l.table (l.start + c)))) l.initial.output l.output
