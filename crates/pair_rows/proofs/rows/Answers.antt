-- No terminal alone, no row; else all rows by one product.
use Rattle.pair_rows.proofs.AllRows as laws
use Rattle.pair_rows.proofs.rows.Goals as goal

pub returns-then-alone-eq0 : goal.returns-then-alone-eq0
returns-then-alone-eq0 c =
    let args = c.args in
    laws.rows_skipped args.set.bits args.other.bits c.if-alone-eq0.true c.empty.ensures

pub overflow_mul-result : goal.overflow_mul-result
overflow_mul-result c =
    let args = c.args in
    record { fits = laws.product_fits args.set.bits args.other.bits c.firsts.result.bits c.firsts.ensures }

pub returns : goal.returns
returns c =
    let args = c.args in
    laws.rows_are args.set.bits args.other.bits c.firsts.result.bits c.firsts.ensures
