-- What judging answers and leaves, by the table's length, by what the descent finds and leaves, and by what is lent of the table.
use Rattle.event.specs.Events.{input_of}
use Rattle.recognizer_promises.proofs.JudgeFaults.{table_short}
use Rattle.recognizer_promises.proofs.Judged.{judge_refused}
use Rattle.check_answers.proofs.Room.{room_lacks, room_there}
use Rattle.recognizer.proofs.LentTable.{judge_lent}
use Rattle.recognizer.proofs.judge.Goals as goal

pub returns-then-not-has_room : goal.returns-then-not-has_room
returns-then-not-has_room g c =
    let given = c.args in
    let k = c.LOOKAHEAD-lookahead.result in
    let table = g.W.TableWord.numbers given.table.now in
    let short = room_lacks k (g.met.W.TableWord.one_each given.table.now) c.has_room.ensures c.if-not-has_room.true in
    rw (← c.LOOKAHEAD-lookahead.ensures, c.table_too_short.ensures)
    (judge_refused (table_short k given.words.now (input_of given.events.now) table given.memo.now short))

pub returns : goal.returns
returns g c =
    let given = c.args in
    let k = c.LOOKAHEAD-lookahead.result in
    let table = g.W.TableWord.numbers given.table.now in
    let long = room_there k (g.met.W.TableWord.one_each given.table.now) c.has_room.ensures c.if-not-has_room.false in
    let lent = rw (← c.LOOKAHEAD-lookahead.ensures) at c.lend.ensures in
    rw (← c.LOOKAHEAD-lookahead.ensures)
    (judge_lent k given.words.now given.events.now table given.memo.now long c.descend_words-found.ensures lent c.answer.ensures)
