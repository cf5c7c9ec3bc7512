-- What falls from a call to those that it makes.
use Rattle.std.specs.Prelude.{List, ℕ, ◌-◌, length}
use Rattle.grammar.specs.Syntax.{Grammar}
use Rattle.semantics.specs.LeftRecursion.{level}
use Rattle.semantics.specs.ComesTo.{Call}

-- the tokens left, then the rank: what falls from a call to those that it makes
unfoldable pub measure : Grammar → List ℕ → Call → ℕ
measure G w x = level G (length w - x.place) x.nonterminal
