-- By the lookahead.
use Rattle.columns.specs.inner.Columns.{column_end}
use Rattle.columns.proofs.column_end.Goals as goal

pub returns-in-One : goal.returns-in-One
unfolding column_end
returns-in-One c = rw c.in-One.is

pub returns-in-Two : goal.returns-in-Two
unfolding column_end
returns-in-Two c = rw c.in-Two.is
