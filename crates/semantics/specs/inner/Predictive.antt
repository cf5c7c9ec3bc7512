-- The families and the table that the descent with k tokens of lookahead goes by.
use Rattle.std.specs.Prelude.{ℕ}
use Rattle.grammar.specs.Syntax.{Grammar}
use Rattle.semantics.specs.Families.{Family, FirstClosed, FollowClosed, Table}
use Rattle.semantics.specs.inner.Families.{TableRight, EveryEnds}

-- closed families and a table right for them
pub record Guides (G : Grammar) (k : ℕ) (F L : Family) (t : Table) : Type 0 where
  pub firsts : FirstClosed G k F
  pub follows : FollowClosed G k F L
  pub table : TableRight G k F L t
  pub ends : EveryEnds G k L
