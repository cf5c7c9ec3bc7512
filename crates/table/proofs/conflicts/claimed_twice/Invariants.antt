-- The loop has noted the rules from the one that it stands at on.
use Prim.Native.Nat.{◌-◌}
use Rattle.base.specs.FiniteSets.{numbers_from}
use Rattle.table.proofs.ClaimedTwice.{Noting}
use Rattle.table.proofs.conflicts.claimed_twice.Given as goal

abbrev pub invariant-loop-rule : goal.invariant-loop-rule
invariant-loop-rule l = Noting l.heads l.sets l.initial.twice (numbers_from l.rule (l.fn.sizes.rules - l.rule)) l.once l.twice
