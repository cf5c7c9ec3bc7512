-- The count is that of the entries passed.
use Prim.Native.Nat.{◌+◌}
use native.Mathlib.Omega.{arith}
use Rattle.memo_table.proofs.Tallying.{count_none, count_more, count_bound}
use Rattle.memo_table.proofs.count_block.Goals as goal

pub loop-entry-init : goal.loop-entry-init
loop-entry-init c = count_none _

pub overflow_add-count : goal.overflow_add-count
overflow_add-count c =
    let at = c.loop-entry.entry-index in
    omega (arith, count_bound c.args.block.now (at + 1), count_more c.args.block.now at (omega arith) c.calls_of-count.ensures)

pub loop-entry-preserved : goal.loop-entry-preserved
loop-entry-preserved c = omega (arith, count_more c.args.block.now c.loop-entry.entry-index (omega arith) c.calls_of-count.ensures)
