-- By whether there is room for the words; what is copied of those that are laid out are the table's.
use mathlib.Core.Path.{sym, ◌∙◌}
use native.Mathlib.Omega.{arith}
use Rattle.lending.proofs.Laying.{lent_short, lent_long, words_copied}
use Rattle.lending.proofs.U32TableWord.write_table.Goals as goal

pub returns-then-table-count : goal.returns-then-table-count
returns-then-table-count c = lent_short _ _ _ _ _ c.args.table.now (omega (arith, c.word_count-count.ensures, c.if-table-count.true))

pub returns : goal.returns
returns c =
    words_copied _ _ _ _ c.args.table.now c.word_count-count.ensures c.lay_out.ensures c.copy_from_slice.ensures.after
    ∙ sym (lent_long _ _ _ _ _ c.args.table.now (omega (arith, c.word_count-count.ensures, c.if-table-count.false)))
