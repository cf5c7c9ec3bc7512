-- Each turn writes the last digit of what is left of the number.
use Prim.Native.Nat.{◌+◌}
use Rattle.inputs.proofs.Writing.{Writing}
use Rattle.inputs.proofs.write_input.Given as goal

abbrev pub invariant-loop-at : goal.invariant-loop-at
invariant-loop-at l = Writing (l.last + 1) l.number l.initial.input l.input l.rest l.at
