-- The loop keeps the conflict of all rows equal to that of those it has not passed.
use mathlib.Core.Path.{◌≡◌}
use Prim.Native.Nat.{◌-◌, ◌≤◌}
use Rattle.columns.specs.Columns.{column_count}
use Rattle.columns.specs.inner.Columns.{column_element}
use Rattle.table_promises.specs.Conflicts.{conflict_from}
use Rattle.table.specs.inner.Conflicts.{in_sets}
use Rattle.table.proofs.conflicts.first_entry.Given as goal

abbrev pub invariant-loop-nonterminal : goal.invariant-loop-nonterminal
invariant-loop-nonterminal l =
    (l.nonterminal ≤ l.nonterminals)
    × (conflict_from (in_sets (column_element l.lookahead l.terminals) l.sets) (column_count l.lookahead l.terminals) l.nonterminal
    (l.nonterminals - l.nonterminal)
    ≡ conflict_from (in_sets (column_element l.lookahead l.terminals) l.sets) (column_count l.lookahead l.terminals) 0 l.nonterminals)
