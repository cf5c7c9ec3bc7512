-- The lines of the nonterminals are put behind that of the sizes.
use borrow.Author.Rules.{rules}
use Rattle.text.proofs.Outputs.{puts_then}
use Rattle.sheet_text.specs.Sheet.{sheet_text}
use Rattle.sheet_text.proofs.put_sheet.Goals as goal

pub returns : goal.returns
unfolding sheet_text
returns c = let put = puts_then c.put_sizes.ensures c.put_nonterminals.ensures in search (rules, put)
