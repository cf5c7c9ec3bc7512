-- The loop keeps: the rows of the nonterminals passed are written.
use mathlib.Core.Path.{◌≡◌}
use Rattle.descent_choices.specs.inner.Choices.{choice_rows}
use Rattle.descent_choices.proofs.choices_of.Given as goal

abbrev pub invariant-loop-nonterminal : goal.invariant-loop-nonterminal
invariant-loop-nonterminal l = l.choices ≡ choice_rows l.starts l.wide l.entries l.long l.nonterminal
