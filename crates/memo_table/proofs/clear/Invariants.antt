-- The front of the table is filled, and the rest is as it was.
use mathlib.Core.List.{◌++◌}
use mathlib.Core.Path.{◌≡◌}
use lib.ListN.{drop, replicate}
use Rattle.grammar.specs.Codes.{uncalled_code}
use Rattle.memo_table.proofs.clear.Given as goal

abbrev pub invariant-loop-at : goal.invariant-loop-at
invariant-loop-at l = l.memo ≡ replicate l.at uncalled_code ++ drop l.at l.initial.memo
