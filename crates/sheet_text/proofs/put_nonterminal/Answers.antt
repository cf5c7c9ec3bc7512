-- The sets are put, then the row.
use Rattle.text.proofs.Outputs.{puts_then}
use Rattle.sheet_text.specs.Sheet.{nonterminal_text}
use Rattle.sheet_text.proofs.put_nonterminal.Goals as goal

pub returns : goal.returns
unfolding nonterminal_text
returns c = search (puts_then)
