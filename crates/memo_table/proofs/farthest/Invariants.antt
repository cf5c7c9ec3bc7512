-- No call is recorded behind the place.
use Rattle.memo_table.proofs.Tallying.{NoneBehind}
use Rattle.memo_table.proofs.farthest.Given as goal

abbrev pub invariant-loop-place : goal.invariant-loop-place
invariant-loop-place l = NoneBehind l.memo l.tokens l.nonterminals l.place
