-- The count and that of the blocks that are left are that of the table.
use Rattle.std.specs.Prelude.{◌≡◌, ◌+◌, length}
use Rattle.std.specs.Slice.Iter.{chunks_rest, chunks_size}
use Rattle.memo_table.specs.inner.Tally.{recorded_below, block_entries}
use Rattle.memo_table.proofs.count_calls.Given as goal

abbrev pub invariant-loop-block : goal.invariant-loop-block
invariant-loop-block l =
    (goal.iterator-loop-block).can_next l.block-iterator
    × (goal.iterator-loop-block).is_finite l.block-iterator
    × (chunks_size l.block-iterator ≡ block_entries)
    × (l.count + recorded_below (chunks_rest l.block-iterator) (length (chunks_rest l.block-iterator)) ≡ recorded_below l.memo (length l.memo))
