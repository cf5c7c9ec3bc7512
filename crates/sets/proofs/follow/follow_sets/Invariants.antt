-- The loop keeps the array under every closed family; the last pass shows it closed.
use mathlib.Core.Path.{◌≡◌}
use lib.ListN.{length}
use Rattle.grammar.specs.Limits.{max_nonterminals}
use Rattle.grammar.specs.Encoding.{parse}
use Rattle.lookahead.specs.inner.Lookaheads.{alphabet}
use Rattle.lookahead.specs.inner.Operations.{full}
use Rattle.families.specs.inner.Least.{at as family}
use Rattle.families.specs.inner.Follow.{FollowNumbersClosed, LastTurns}
use Rattle.families.proofs.LeastByPasses.{Below, missing}
use Rattle.sets.proofs.follow.follow_sets.Given as goal

abbrev pub invariant-loop-sizes : goal.invariant-loop-sizes
invariant-loop-sizes l =
    (length l.follows ≡ max_nonterminals) × Below (FollowNumbersClosed l.lookahead (family l.firsts) (parse l.words).rules) l.follows
    × LastTurns l.lookahead (family l.firsts) l.words l.sizes.rules l.last l.follows

abbrev pub decreases-loop-sizes : goal.decreases-loop-sizes
decreases-loop-sizes l = missing (full l.lookahead (alphabet l.lookahead)) l.follows
