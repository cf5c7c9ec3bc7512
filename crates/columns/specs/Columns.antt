-- The columns of a row. With one token of lookahead: the terminals in order, then the end. With two: the elements of sets in order, whatever the
-- terminals are (document 02: the end, each last letter, then each two letters).
use Rattle.std.specs.Prelude.{List, [], ◌∷◌, ℕ, suc, eqb}
use Rattle.base.specs.Choice.{choose}
use Rattle.grammar.specs.Limits.{max_columns_of_two}
use Rattle.grammar.specs.Syntax.{Grammar}
use Rattle.lookahead.specs.declared.Lookahead.{Lookahead}
use Rattle.lookahead.specs.declared.Lookahead.TheVariants.{One, Two}
use Rattle.lookahead.specs.Lookaheads.{element_of, string_of}
use Rattle.semantics.specs.Claims.{column}

-- how many there are
abbrev pub column_count : Lookahead → ℕ → ℕ
column_count One terminals = suc terminals
column_count Two terminals = max_columns_of_two

abbrev pub columns : Lookahead → Grammar → ℕ
columns k G = column_count k G.terminals

-- the lookahead string of a column
unfoldable pub column_string : Lookahead → ℕ → ℕ → List ℕ
column_string One terminals c = choose (eqb c terminals) [] (c ∷ [])
column_string Two terminals c = string_of Two c

-- and the column of a string
abbrev pub column_of : Lookahead → ℕ → List ℕ → ℕ
column_of One terminals x = column terminals x
column_of Two terminals x = element_of Two x
