-- Of the inputs tried so far the costliest is kept; it is tried last.
use Prim.Native.Nat.{◌-◌}
use Rattle.recursive_descent_promises.proofs.Searching.{Searching}
use Rattle.recursive_descent.proofs.search.leave_costliest.Given as goal

abbrev pub invariant-loop-trials : goal.invariant-loop-trials
invariant-loop-trials l = Searching l.words l.initial.events l.initial.memo l.events l.memo l.trials

abbrev pub decreases-loop-trials : goal.decreases-loop-trials
decreases-loop-trials l = l.inputs - l.trials.next
