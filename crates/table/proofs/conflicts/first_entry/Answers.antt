-- The loop keeps the conflict of all rows equal to that of those it has not passed.
use mathlib.Core.Path.{sym, ◌∙◌}
use native.Mathlib.Omega.{arith}
use Rattle.table.proofs.ConflictScan.{row_here, row_later, rows_none}
use Rattle.table.proofs.conflicts.first_entry.Goals as goal

pub returns-in_default : goal.returns-in_default
returns-in_default c =
    sym (row_here _ _ c.loop-nonterminal-test.true c.first_column-conflict.ensures c.in_default.not-None) ∙ c.loop-nonterminal.invariant.1

pub loop-nonterminal-preserved : goal.loop-nonterminal-preserved
loop-nonterminal-preserved c =
    (omega arith, sym (row_later _ _ c.loop-nonterminal-test.true c.first_column-conflict.ensures c.in-None.is) ∙ c.loop-nonterminal.invariant.1)

pub returns : goal.returns
returns c = sym (rows_none _ _ _ _ c.loop-nonterminal-test.false) ∙ c.loop-nonterminal.invariant.1
