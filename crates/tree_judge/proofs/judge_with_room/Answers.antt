-- The lengths are looked at one after the other; then it is judged.
use native.Mathlib.Omega.{arith}
use Rattle.event.specs.Events.{input_of}
use Rattle.tree_writer_promises.proofs.Showing.{short_table, short_memo, judged_with_room}
use Rattle.tree_judge.proofs.judge_with_room.Goals as goal

pub returns-then-table-lt-TABLE_WORDS : goal.returns-then-table-lt-TABLE_WORDS
returns-then-table-lt-TABLE_WORDS c =
    let given = c.args in
    short_table given.words.now (input_of given.events.now) given.table.now given.memo.now given.room c.if-table-lt-TABLE_WORDS.true

pub returns-then-memo-lt-MEMO_ENTRIES : goal.returns-then-memo-lt-MEMO_ENTRIES
returns-then-memo-lt-MEMO_ENTRIES c =
    let given = c.args in
    short_memo given.words.now (input_of given.events.now) given.table.now given.memo.now given.room c.if-table-lt-TABLE_WORDS.false
    c.if-memo-lt-MEMO_ENTRIES.true

pub returns : goal.returns
returns c =
    let given = c.args in
    judged_with_room given.words.now (input_of given.events.now) given.table.now given.memo.now given.room c.if-table-lt-TABLE_WORDS.false
    c.if-memo-lt-MEMO_ENTRIES.false (omega arith) c.judge.ensures
