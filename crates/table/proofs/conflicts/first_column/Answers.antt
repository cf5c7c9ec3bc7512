-- The loop keeps the conflict of the whole row equal to that of the columns it has not passed.
use mathlib.Core.Path.{sym, ◌∙◌}
use native.Mathlib.Omega.{arith}
use Rattle.table.proofs.ConflictScan.{column_empty, column_here, column_later, column_none}
use Rattle.table.proofs.conflicts.first_column.Goals as goal

pub returns-then-is_empty : goal.returns-then-is_empty
returns-then-is_empty c = sym (column_empty _ _ _ _ _ (sym c.is_empty.ensures ∙ c.if-is_empty.true))

pub returns-then-contains : goal.returns-then-contains
returns-then-contains c =
    let here = rw c.element.ensures at (sym c.contains.ensures ∙ c.if-contains.true) in
    sym (column_here _ _ (omega arith) here) ∙ c.loop-column.invariant.2

pub loop-column-preserved : goal.loop-column-preserved
loop-column-preserved c =
    let here = rw c.element.ensures at (sym c.contains.ensures ∙ c.if-contains.false) in
    (c.loop-column.invariant.0, omega arith, sym (column_later _ _ (omega arith) here) ∙ c.loop-column.invariant.2)

pub returns : goal.returns
returns c = sym (column_none _ _ _ _ (omega arith)) ∙ c.loop-column.invariant.2
