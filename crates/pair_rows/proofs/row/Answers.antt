-- The first tokens are moved to the pairs of a terminal; the terminal alone is there where nothing may come behind it.
use Rattle.pair_rows.proofs.Behind as behind
use Rattle.pair_rows.proofs.OneRow as laws
use Rattle.pair_rows.proofs.row.Goals as goal

pub returns-then-l-ge-TERMINALS_OF_TWO : goal.returns-then-l-ge-TERMINALS_OF_TWO
returns-then-l-ge-TERMINALS_OF_TWO c = let args = c.args in behind.none_behind args.l args.other.bits c.if-l-ge-TERMINALS_OF_TWO.true c.empty.ensures

pub returns-then-other-eq0 : goal.returns-then-other-eq0
returns-then-other-eq0 c =
    let args = c.args in
    laws.row_before_none args.other.bits c.firsts.result.bits c.firsts.ensures args.l c.if-l-ge-TERMINALS_OF_TWO.false c.if-other-eq0.true

pub returns : goal.returns
returns c =
    let args = c.args in
    laws.row_before_end args.other.bits c.firsts.result.bits c.firsts.ensures args.l c.if-l-ge-TERMINALS_OF_TWO.false c.if-other-eq0.false
