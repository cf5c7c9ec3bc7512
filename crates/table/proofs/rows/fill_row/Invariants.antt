-- The loop has filled the columns before the one that it stands at.
use mathlib.Core.Path.{◌≡◌}
use Rattle.columns.specs.Columns.{column_count}
use Rattle.columns.specs.inner.Columns.{column_element}
use Rattle.table.specs.inner.Entries.{FilledRow}
use Rattle.table.proofs.rows.fill_row.Given as goal

abbrev pub invariant-loop-column : goal.invariant-loop-column
invariant-loop-column l =
    (l.columns ≡ column_count l.lookahead l.terminals)
    × FilledRow l.initial.entries l.row (column_element l.lookahead l.terminals) l.column l.claim.bits l.rule l.entries
