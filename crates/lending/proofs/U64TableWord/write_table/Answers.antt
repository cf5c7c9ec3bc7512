-- By whether there is room for the words. The loop has written the words before the one that it stands at, and left what was behind them.
use mathlib.Core.Path.{sym, ◌∙◌}
use native.Mathlib.Omega.{arith}
use Rattle.lending.proofs.Laying.{front_next, lent_short, lent_long, words_written}
use Rattle.lending.proofs.U64TableWord.write_table.Goals as goal

pub returns-then-table-count : goal.returns-then-table-count
returns-then-table-count c = lent_short _ _ _ _ _ c.args.table.now (omega (arith, c.word_count-count.ensures, c.if-table-count.true))

pub loop-at-preserved : goal.loop-at-preserved
loop-at-preserved c =
    front_next _ _ _ _ _ _ c.loop-at.invariant c.loop-at-test.true (omega (arith, c.if-table-count.false)) c.word.ensures

pub returns : goal.returns
returns c =
    words_written _ _ _ _ c.loop-at.auto.at-end c.loop-at-test.false c.args.table.now c.word_count-count.ensures c.loop-at.invariant
    ∙ sym (lent_long _ _ _ _ _ c.args.table.now (omega (arith, c.word_count-count.ensures, c.if-table-count.false)))
