-- Each turn writes the last digit of what is left of the number.
use Rattle.inputs.proofs.Writing.{writing_next, writing_done}
use Rattle.inputs.proofs.write_input.Goals as goal

pub loop-at-preserved : goal.loop-at-preserved
loop-at-preserved c = rw c.from-terminals.ensures (writing_next c.loop-at.invariant c.loop-at-test.true c.loop-at.auto.at)

pub returns : goal.returns
returns c = writing_done c.loop-at.invariant c.loop-at-test.false
