-- One mark more is cleared.
use Rattle.std.proofs.Common.{rules}
use Rattle.std.proofs.lemmas.List.Edits.{map_over_more}
use Rattle.kept_marks.specs.inner.Stored.{cleared_beyond}
use Rattle.kept_marks.proofs.all_cleared.Goals as goal

pub loop-mark-preserved : goal.loop-mark-preserved
loop-mark-preserved c =
    rw c.cleared.ensures (map_over_more (cleared_beyond c.args.length) c.args.marks _ _ _ (search rules) c.loop-mark.invariant (search rules))
