-- Without entries nothing is changed; with them the descent leaves them.
use Rattle.recursive_descent_promises.proofs.Deciding.{prepared_refused, prepared_start, prepared_done}
use Rattle.recursive_descent.proofs.descend_words.Goals as goal

pub returns-then-entries-eq0 : goal.returns-then-entries-eq0
returns-then-entries-eq0 c =
    prepared_refused c.prepare_input-prepared.ensures c.if-entries-eq0.true

pub call-requires : goal.call-requires
call-requires c =
    prepared_start c.prepare_input-prepared.ensures c.if-entries-eq0.false

pub returns : goal.returns
returns c =
    prepared_done c.prepare_input-prepared.ensures c.if-entries-eq0.false c.call.ensures
