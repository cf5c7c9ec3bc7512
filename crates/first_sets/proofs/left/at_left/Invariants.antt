-- The loop keeps `Collected`: the rules before have given what is at their left.
use Rattle.families.specs.inner.Least.{at as family}
use Rattle.families.specs.inner.Left.{empty_in, rule_left}
use Rattle.families.proofs.OnePass.{Collected}
use Rattle.first_sets.proofs.left.at_left.Given as goal

abbrev pub invariant-loop-rule : goal.invariant-loop-rule
invariant-loop-rule l = Collected (rule_left (empty_in l.lookahead (family l.firsts))) l.words l.sets l.rule
