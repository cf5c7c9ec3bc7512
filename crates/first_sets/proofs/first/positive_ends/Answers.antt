-- The loop keeps `EndsBefore`: the rules before have theirs.
use mathlib.Core.Path.{refl}
use native.Mathlib.Omega.{arith}
use Rattle.families.proofs.HeadPasses.{pass_first}
use Rattle.families.proofs.RulePlaces.{few_rules}
use Rattle.families.proofs.PositiveEnds.{ends_next}
use Rattle.first_sets.proofs.first.positive_ends.Goals as goal

pub offset_bounds-ends-rule : goal.offset_bounds-ends-rule
offset_bounds-ends-rule c = omega (arith, few_rules _ _ c.requires.0)

pub bounds-ends-rule : goal.bounds-ends-rule
bounds-ends-rule c = omega (arith, few_rules _ _ c.requires.0)

pub loop-rule-preserved : goal.loop-rule-preserved
loop-rule-preserved c =
    ends_next (pass_first c.requires.0 c.requires.1) c.loop-rule-test.true c.end_of-end.ensures c.negatives_in.ensures c.loop-rule.invariant refl
