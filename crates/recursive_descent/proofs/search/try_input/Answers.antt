-- What is written is an input of the grammar's terminals, and its calls are counted in the memo table.
use Rattle.recursive_descent_promises.proofs.Searching.{trial_start, trial_done}
use Rattle.recursive_descent.proofs.search.try_input.Goals as goal

pub call-requires : goal.call-requires
call-requires c =
    trial_start c.requires c.args.number c.prepare_trial-tokens.ensures

pub returns : goal.returns
returns c =
    trial_done c.requires c.args.number c.prepare_trial-tokens.ensures c.call.ensures c.count_calls.ensures
