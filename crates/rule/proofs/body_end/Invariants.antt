-- The loop keeps: from here the body ends where it does from its start.
use mathlib.Core.Path.{◌≡◌}
use Prim.Native.Nat.{◌-◌}
use lib.ListN.{length}
use Rattle.rule.specs.inner.Rule.{body_end}
use Rattle.rule.proofs.body_end.Given as goal

abbrev pub invariant-loop-at : goal.invariant-loop-at
invariant-loop-at l = body_end l.words l.at ≡ body_end l.words l.from

abbrev pub decreases-loop-at : goal.decreases-loop-at
decreases-loop-at l = length l.words - l.at
