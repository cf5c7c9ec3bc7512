-- The first marks are cleared: the loop's invariant.
use Rattle.std.proofs.Common.{◌≡◌, ◌++◌, map, take, drop}
use Rattle.kept_marks.specs.inner.Stored.{cleared_beyond}
use Rattle.kept_marks.proofs.all_cleared.Given as goal

abbrev pub invariant-loop-mark : goal.invariant-loop-mark
invariant-loop-mark l = l.mark-items ≡ map (cleared_beyond l.length) (take l.mark-index l.fn.marks) ++ drop l.mark-index l.fn.marks
