-- Sets of nonterminals are numbers, as lookahead sets are: B weighs 2^B.
use Rattle.std.specs.Prelude.{◌≡◌, ◌&&◌, ℕ, eqb, ltb}
use Rattle.grammar.specs.Limits.{max_nonterminals}
use Rattle.lookahead.specs.Elements.{weight, has}
use Rattle.base.specs.Choice.{choose}
use Rattle.lookahead.specs.inner.Operations.{empty_set}

-- the set of a nonterminal alone, empty where the number is no nonterminal's
unfoldable pub alone : ℕ → ℕ
alone A = choose (ltb A max_nonterminals) (weight A) empty_set

pub record Alone (A r : ℕ) : Type 0 where
  pub is : r ≡ alone A
  pub member : (B : ℕ) → has r B ≡ (ltb A max_nonterminals && eqb B A)
