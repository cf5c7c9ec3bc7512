-- Nothing, the single terminals, and these followed by one another.
use Rattle.concatenation.proofs.FullSet as full-set
use Rattle.concatenation.proofs.full.Goals as goal

pub returns : goal.returns
returns c =
    let args = c.args in
    full-set.full_is args.lookahead args.terminals c.singles-singles.result.bits c.singles-singles.ensures
    c.end.ensures c.concat-longer.ensures
    c.join.ensures c.join-2.ensures
