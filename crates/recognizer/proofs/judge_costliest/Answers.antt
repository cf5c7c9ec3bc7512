-- What is answered and left, by the table's length, by what the search finds and leaves, and by what is lent of the table.
use Rattle.recognizer_promises.proofs.CostliestFaults.{table_refused}
use Rattle.recognizer.proofs.LentTable.{costliest_lent}
use Rattle.recognizer.proofs.judge_costliest.Goals as goal

pub returns-then-table-lt-TABLE_WORDS : goal.returns-then-table-lt-TABLE_WORDS
returns-then-table-lt-TABLE_WORDS c =
    let given = c.args in
    table_refused given.words.now given.tokens given.log.now given.table.now given.memo.now c.if-table-lt-TABLE_WORDS.true

pub returns : goal.returns
returns c =
    let given = c.args in
    costliest_lent given.words.now given.tokens given.log.now given.table.now given.memo.now c.if-table-lt-TABLE_WORDS.false
    c.descend_costliest-found.ensures c.lend.ensures c.answer.ensures
