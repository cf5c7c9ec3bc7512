-- The loop keeps: the lines of the nonterminals passed are put.
use Rattle.text.specs.inner.Outputs.{Puts}
use Rattle.text.specs.Writing.{up_to}
use Rattle.gaps_text_promises.specs.inner.Steps.{row_text, claimant_at}
use Rattle.gaps_text.proofs.put_rows.Given as goal

abbrev pub invariant-loop-nonterminal : goal.invariant-loop-nonterminal
invariant-loop-nonterminal l =
    Puts (up_to l.nonterminal (row_text l.sizes (claimant_at l.heads l.sets l.sizes.terminals))) l.initial.output l.output
