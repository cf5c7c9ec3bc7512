-- How many bytes the lines of the sheet of gaps and overlaps take at most, and all of it.
use Rattle.std.specs.Prelude.{ℕ, ◌+◌, ◌*◌}
use Rattle.grammar.specs.Limits.{max_nonterminals, max_columns, max_rules}

-- a space and a rule's number
abbrev pub rule_room : ℕ
rule_room = 4

-- the line of an entry but for its rules: nonterminal, column, the line's end, and the dash where there are no rules
abbrev pub gap_room : ℕ
gap_room = 8

-- a nonterminal alone on its line
abbrev pub overrun_room : ℕ
overrun_room = 3

-- a rule stands in the row of its head alone, so all rows together have each rule at most once a column
abbrev pub gaps_room : ℕ
gaps_room = max_nonterminals * (max_columns * gap_room) + max_columns * (max_rules * rule_room) + max_nonterminals * overrun_room
