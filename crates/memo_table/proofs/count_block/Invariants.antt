-- The count is that of the entries passed.
use mathlib.Core.Path.{◌≡◌}
use Rattle.memo_table.specs.inner.Tally.{recorded_below}
use Rattle.memo_table.proofs.count_block.Given as goal

abbrev pub invariant-loop-entry : goal.invariant-loop-entry
invariant-loop-entry l = l.count ≡ recorded_below l.block l.entry-index
