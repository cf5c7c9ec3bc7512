-- The loop keeps the conflict of the whole row equal to that of the columns it has not passed.
use mathlib.Core.Path.{◌≡◌}
use Prim.Native.Nat.{◌-◌, ◌≤◌}
use Rattle.columns.specs.Columns.{column_count}
use Rattle.columns.specs.inner.Columns.{column_element}
use Rattle.table_promises.specs.Conflicts.{row_conflict}
use Rattle.table.specs.inner.Conflicts.{in_set}
use Rattle.table.proofs.conflicts.first_column.Given as goal

abbrev pub invariant-loop-column : goal.invariant-loop-column
invariant-loop-column l =
    (l.columns ≡ column_count l.lookahead l.terminals)
    × (l.column ≤ l.columns)
    × (row_conflict (in_set (column_element l.lookahead l.terminals) l.set.bits) l.nonterminal l.column (l.columns - l.column)
    ≡ row_conflict (in_set (column_element l.lookahead l.terminals) l.set.bits) l.nonterminal 0 (column_count l.lookahead l.terminals))
