-- What k tokens of lookahead need of a grammar.
use Rattle.std.specs.Prelude.{◌≡◌, [], ℕ, ◌<◌, T}
use Rattle.grammar.specs.Syntax.{Grammar, WellScoped}
use Rattle.semantics.specs.LeftRecursion.{NoLeftRecursion}
use Rattle.semantics.specs.Families.{OwnTerminals}
use Rattle.semantics.specs.Claims.{clashes, every_ends}

-- k tokens are enough: the grammar's own families and table are such guides (document 01, k = 1: a passed card, but for the limits; see `passed` in Theorems)
pub record Predictive (G : Grammar) (k : ℕ) : Type 0 where
  pub scoped : WellScoped G
  pub terminals : OwnTerminals G
  pub start : 0 < G.nonterminals
  pub unrecursive : NoLeftRecursion G
  pub clashless : clashes G k ≡ []
  pub ends : T (every_ends G k)
