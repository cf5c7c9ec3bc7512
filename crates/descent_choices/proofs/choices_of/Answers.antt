-- The loop keeps: the rows of the nonterminals passed are written.
use native.Mathlib.Omega.{arith}
use Rattle.descent_choices.proofs.ChoiceRows.{rows_none, rows_all}
use Rattle.descent_choices.proofs.choices_of.Goals as goal

pub loop-nonterminal-init : goal.loop-nonterminal-init
loop-nonterminal-init c = rows_none _ _ _ _

pub returns : goal.returns
returns c = rows_all _ _ _ _ _ (omega arith) c.min-wide.ensures c.min-long.ensures c.loop-nonterminal.invariant
