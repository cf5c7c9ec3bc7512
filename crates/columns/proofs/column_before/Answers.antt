-- By the lookahead.
use Rattle.columns.specs.inner.Columns.{column_before}
use Rattle.columns.proofs.column_before.Goals as goal

pub returns-in-One : goal.returns-in-One
unfolding column_before
returns-in-One c = rw c.in-One.is

pub returns-in-Two : goal.returns-in-Two
unfolding column_before
returns-in-Two c = rw c.in-Two.is
