-- The loop keeps `FollowWalk`: the words from `at` on have been gone through.
use Rattle.families.specs.inner.Least.{at as family}
use Rattle.families.proofs.FollowPasses.{FollowWalk}
use Rattle.sets.proofs.follow.follow_bodies.Given as goal

abbrev pub invariant-loop-at : goal.invariant-loop-at
invariant-loop-at l =
    FollowWalk l.lookahead (family l.firsts) l.follow l.words l.initial.follows l.follows l.from l.to l.grown l.tail.bits l.at
