-- The loop keeps: the lines of the columns passed are put.
use Rattle.text.specs.inner.Outputs.{Puts}
use Rattle.text.specs.Writing.{up_to}
use Rattle.gaps_text_promises.specs.inner.Steps.{entry_line, claimant_at}
use Rattle.gaps_text.proofs.put_row.Given as goal

abbrev pub invariant-loop-column : goal.invariant-loop-column
invariant-loop-column l =
    Puts (up_to l.column (λ c. entry_line l.sizes.rules (claimant_at l.heads l.sets l.sizes.terminals l.nonterminal c) l.nonterminal c))
    l.initial.output l.output
