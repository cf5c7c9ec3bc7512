-- The loop keeps: the cursor stands, and the calls of the entries before it are put.
use Rattle.calls_text.proofs.Cursors.{Passing}
use Rattle.calls_text.proofs.put_calls.Given as goal

abbrev pub invariant-loop-entry : goal.invariant-loop-entry
invariant-loop-entry l = Passing l.tokens l.memo l.initial.output l._entry l.cursor l.output
