-- What checking answers, by the table's length and by what is found of the grammar.
use Rattle.recognizer_promises.proofs.Checking.{check_short}
use Rattle.check_answers.proofs.Room.{room_lacks, room_there}
use Rattle.checker.proofs.Checked.{checks_found}
use Rattle.checker.proofs.check.Goals as goal

pub returns-then-not-has_room : goal.returns-then-not-has_room
returns-then-not-has_room g c =
    let k = c.LOOKAHEAD-lookahead.result in
    let each = g.met.W.TableWord.one_each c.args.table.now in
    rw (← c.LOOKAHEAD-lookahead.ensures, c.table_too_short.ensures) (check_short k (room_lacks k each c.has_room.ensures c.if-not-has_room.true))

pub returns : goal.returns
returns g c =
    let given = c.args in
    let k = c.LOOKAHEAD-lookahead.result in
    let long = room_there k (g.met.W.TableWord.one_each given.table.now) c.has_room.ensures c.if-not-has_room.false in
    let lent = rw (← c.LOOKAHEAD-lookahead.ensures) at c.lend.ensures in
    rw (← c.LOOKAHEAD-lookahead.ensures)
    (checks_found k given.words.now (g.W.TableWord.numbers given.table.now) long c.find_into-finding.ensures lent c.answer.ensures)
