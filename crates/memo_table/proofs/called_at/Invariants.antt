-- None of the nonterminals passed was called there.
use mathlib.Core.Path.{◌≡◌}
use mathlib.Core.Bool.{false}
use Rattle.memo_table.specs.inner.Tally.{called_at}
use Rattle.memo_table.proofs.called_at.Given as goal

abbrev pub invariant-loop-nonterminal : goal.invariant-loop-nonterminal
invariant-loop-nonterminal l = called_at l.memo l.nonterminal l.tokens l.place ≡ false
