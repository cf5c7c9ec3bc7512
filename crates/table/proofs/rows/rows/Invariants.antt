-- The loop has written the rules from the one that it stands at on, whichever number of rows has their heads.
use mathlib.Core.Path.{◌≡◌}
use Prim.Native.Nat.{ℕ, ◌-◌}
use Rattle.base.specs.FiniteSets.{numbers_from}
use Rattle.columns.specs.Columns.{column_count}
use Rattle.claims.specs.inner.Claims.{Headed}
use Rattle.table.specs.inner.Entries.{FilledRows, no_rules, rows_of}
use Rattle.table.proofs.rows.rows.Given as goal

abbrev pub invariant-loop-rule : goal.invariant-loop-rule
invariant-loop-rule l =
    (l.columns ≡ column_count l.lookahead l.terminals)
    × ((n : ℕ) → Headed l.heads l.fn.sizes.rules n → FilledRows (rows_of l.lookahead n l.terminals) l.heads l.sets l.rule
    (numbers_from l.rule (l.fn.sizes.rules - l.rule)) no_rules l.entries)
