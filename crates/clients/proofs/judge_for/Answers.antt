-- A client that is turned away is answered so; else the answer is that of judging. Either is charged.
use mathlib.Core.Path.{◌≡◌}
use borrow.Author.Rules.{rules}
use lib.ListN.{length}
use Rattle.event.specs.Events.{input_of}
use Rattle.client_records.specs.Usages.{clients}
use Rattle.clients_promises.proofs.Serving.{turned_away_served, let_through_served}
use Rattle.clients.proofs.judge_for.Goals as goal

pub returns-in-Err : goal.returns-in-Err
returns-in-Err c =
    let given = c.args in
    let eight : length given.usages ≡ clients = search rules in
    turned_away_served given.client given.share given.limit given.usages eight given.words.now (input_of given.events.now)
    given.table.now given.memo.now c.allowance.ensures c.in-Err.is c.charge.ensures

pub returns : goal.returns
returns c =
    let given = c.args in
    let eight : length given.usages ≡ clients = search rules in
    let_through_served given.client given.share given.limit given.usages eight given.words.now (input_of given.events.now)
    given.table.now given.memo.now c.allowance.ensures c.in_default.not-Err c.judge-answer.ensures c.charge-2.ensures
