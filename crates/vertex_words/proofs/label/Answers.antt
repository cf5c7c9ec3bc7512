-- The numbers stay small, and the word is that of what the lent memories hold.
use borrow.Author.Rules.{rules}
use Rattle.tree_writer_promises.proofs.Labelling.{label_long, label_short}
use Rattle.vertex_words.proofs.label.Goals as goal

pub returns-then-events-gt-TOKENS : goal.returns-then-events-gt-TOKENS
returns-then-events-gt-TOKENS c =
    let a = c.args in
    label_long a.sizes a.events.now a.table.now a.memo.now a.nonterminal a.place c.if-events-gt-TOKENS.true

pub returns : goal.returns
returns c =
    let a = c.args in
    label_short a.sizes a.events.now a.table.now a.memo.now a.nonterminal a.place c.if-events-gt-TOKENS.false
    c.column_at-column.ensures (search rules) (search rules) c.vertex_word.ensures
