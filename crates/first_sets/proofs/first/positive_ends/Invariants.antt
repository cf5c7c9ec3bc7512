-- The loop keeps `EndsBefore`: the rules before have theirs.
use Rattle.families.proofs.PositiveEnds.{EndsBefore}
use Rattle.first_sets.proofs.first.positive_ends.Given as goal

abbrev pub invariant-loop-rule : goal.invariant-loop-rule
invariant-loop-rule l = EndsBefore l.words l.starts l.sizes.rules l.ends l.rule
