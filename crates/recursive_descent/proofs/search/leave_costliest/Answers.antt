-- Of the inputs tried so far the costliest is kept; it is tried last.
use native.Mathlib.Omega.{arith}
use Rattle.recursive_descent_promises.proofs.Searching.{searching_start, searching_next, searching_less, searching_done}
use Rattle.recursive_descent.proofs.search.leave_costliest.Goals as goal

pub loop-trials-init : goal.loop-trials-init
loop-trials-init c = searching_start c.requires c.no_trials-trials.ensures

pub loop-trials-smaller : goal.loop-trials-smaller
loop-trials-smaller c =
    searching_less c.requires c.loop-trials.invariant c.loop-trials-test.true _ c.tried-trials.ensures

pub loop-trials-preserved : goal.loop-trials-preserved
loop-trials-preserved c =
    searching_next c.requires c.loop-trials.invariant c.loop-trials-test.true c.try_input-calls.ensures (omega arith) (omega arith) c.tried-trials.ensures

pub returns : goal.returns
returns c =
    searching_done c.requires c.loop-trials.invariant c.loop-trials-test.false c.try_input.ensures
