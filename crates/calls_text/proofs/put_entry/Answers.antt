-- The nonterminal and the place that the cursor carries are those of its index.
use borrow.Author.Rules.{rules}
use Rattle.calls_text.proofs.Cursors.{entry_put}
use Rattle.calls_text.proofs.put_entry.Goals as goal

pub returns : goal.returns
returns c = entry_put c.args.memo.now _ c.args.cursor (search rules) c.put_call.ensures
