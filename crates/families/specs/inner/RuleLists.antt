-- Lists of a number for each rule.
use Rattle.std.specs.Prelude.{List, ◌++◌, ℕ, ◌-◌, length, replicate}
use Rattle.grammar.specs.Limits.{max_rules}

-- a number for each rule, and zeros behind them
unfoldable pub by_rule : List ℕ → List ℕ
by_rule l = l ++ replicate (max_rules - length l) 0
