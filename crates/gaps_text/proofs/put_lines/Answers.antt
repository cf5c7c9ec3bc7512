-- The nonterminals that overrun are put behind the entries.
use borrow.Author.Rules.{rules}
use Rattle.text.proofs.Outputs.{puts_then}
use Rattle.gaps_text_promises.specs.inner.Steps.{lines_text}
use Rattle.gaps_text.proofs.put_lines.Goals as goal

pub returns : goal.returns
unfolding lines_text
returns c = let put = puts_then c.put_rows.ensures c.put_overruns.ensures in search (rules, put)
