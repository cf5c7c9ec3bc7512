-- Which rule a call runs: a choice for each nonterminal and place, and the one that k tokens of lookahead make.
use Rattle.std.specs.Prelude.{List, ℕ}
use Rattle.std.proofs.Math.Option.{Option}
use Rattle.grammar.specs.Syntax.{Grammar}
use Rattle.base.specs.Strings.{look}
use Rattle.semantics.specs.Families.{Table}
use Rattle.semantics.specs.Claims.{table_of}

-- for a nonterminal and a place the number of a rule, or none
abbrev pub Choice : Type 0
Choice = ℕ → ℕ → Option ℕ

-- by the entry of a table for the first k tokens from the place on
abbrev pub by_lookahead : Table → ℕ → List ℕ → Choice
by_lookahead t k w A i = t A (look k w i)

-- by the grammar's own table (document 01: looks up its cell)
abbrev pub table_choice : Grammar → ℕ → List ℕ → Choice
table_choice G k w = by_lookahead (table_of G k) k w
