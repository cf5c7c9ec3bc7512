-- Without entries nothing is changed; with them the costliest input and its entries are left.
use mathlib.Core.Path.{sym}
use lib.Seq.{length-take-le}
use Rattle.recursive_descent_promises.proofs.Searching.{prepared_refused, log_fits, memo_fits, prepared_trials, prepared_searched}
use Rattle.recursive_descent.proofs.search.descend_costliest.Goals as goal

pub returns-then-entries-eq0 : goal.returns-then-entries-eq0
returns-then-entries-eq0 c =
    let given = c.args in
    prepared_refused given.log.now given.memo.now c.prepare_search-prepared.ensures c.if-entries-eq0.true

pub slice_bounds-leave_costliest-end : goal.slice_bounds-leave_costliest-end
slice_bounds-leave_costliest-end c =
    let given = c.args in
    log_fits given.log.now given.memo.now c.prepare_search-prepared.ensures c.if-entries-eq0.false

pub slice_bounds-leave_costliest-end-2 : goal.slice_bounds-leave_costliest-end-2
slice_bounds-leave_costliest-end-2 c =
    let given = c.args in
    sym (length-take-le given.tokens given.log.now
    (log_fits given.log.now given.memo.now c.prepare_search-prepared.ensures c.if-entries-eq0.false))

pub slice_bounds-leave_costliest-end-3 : goal.slice_bounds-leave_costliest-end-3
slice_bounds-leave_costliest-end-3 c =
    let given = c.args in
    memo_fits given.log.now given.memo.now c.prepare_search-prepared.ensures c.if-entries-eq0.false

pub slice_bounds-leave_costliest-end-4 : goal.slice_bounds-leave_costliest-end-4
slice_bounds-leave_costliest-end-4 c =
    let given = c.args in
    sym (length-take-le _ given.memo.now
    (memo_fits given.log.now given.memo.now c.prepare_search-prepared.ensures c.if-entries-eq0.false))

pub leave_costliest-requires : goal.leave_costliest-requires
leave_costliest-requires c =
    let given = c.args in
    prepared_trials given.log.now given.memo.now c.prepare_search-prepared.ensures c.if-entries-eq0.false

pub returns : goal.returns
returns c =
    let given = c.args in
    prepared_searched given.log.now given.memo.now c.prepare_search-prepared.ensures c.if-entries-eq0.false c.leave_costliest.ensures
