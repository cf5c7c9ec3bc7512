-- The product of the turns so far is a power, and is not over the limit.
use Rattle.inputs.proofs.Counting.{Counting}
use Rattle.inputs.proofs.count_inputs.Given as goal

abbrev pub invariant-loop : goal.invariant-loop
invariant-loop l = Counting l.terminals l.inputs l.counter
