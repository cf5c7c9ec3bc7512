-- The loop has written the words before the one that it stands at, and left what was behind them.
use mathlib.Core.Path.{◌≡◌}
use Rattle.base.specs.Lists.{listed}
use Rattle.lending.specs.inner.Lending.{table_word_at}
use Rattle.base.proofs.Front.{front}
use Rattle.lending.proofs.U64TableWord.write_table.Given as goal

abbrev pub invariant-loop-at : goal.invariant-loop-at
invariant-loop-at l =
    let lent = l.lent in
    let word = table_word_at lent.sizes.nonterminals lent.firsts.now lent.follows.now lent.entries.now in
    l.table ≡ front (listed l.count word) l.at l.initial.table
