-- The loop keeps `Turns`: the rules before have had their turn; and `LastTurns`: what came behind the bodies of each when it last had it.
use Rattle.families.specs.inner.Least.{at as family}
use Rattle.families.specs.inner.Follow.{LastTurns}
use Rattle.families.proofs.RulePasses.{Turns}
use Rattle.families.proofs.FollowPasses.{Asks}
use Rattle.sets.proofs.follow.follow_rules.Given as goal

abbrev pub invariant-loop-passed : goal.invariant-loop-passed
invariant-loop-passed l =
    Turns (Asks l.lookahead (family l.firsts) l.words) l.sizes.rules l.forward l.initial.follows l.follows l.grown l.passed
    × LastTurns l.lookahead (family l.firsts) l.words l.sizes.rules l.last l.follows
