-- The loop keeps: the lines of the nonterminals passed are put.
use Rattle.text.specs.inner.Outputs.{Puts}
use Rattle.text.specs.Writing.{up_to}
use Rattle.sheet_text.specs.Sheet.{nonterminal_text}
use Rattle.sheet_text.proofs.put_nonterminals.Given as goal

abbrev pub invariant-loop-nonterminal : goal.invariant-loop-nonterminal
invariant-loop-nonterminal l = Puts (up_to l.nonterminal (nonterminal_text l.sizes l.table)) l.initial.output l.output
