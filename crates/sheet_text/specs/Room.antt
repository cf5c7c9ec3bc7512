-- How many bytes the lines of a sheet take at most, and all of it.
use Rattle.std.specs.Prelude.{ℕ, ◌+◌, ◌*◌}
use Rattle.grammar.specs.Limits.{max_nonterminals, max_columns}

abbrev pub sizes_room : ℕ
sizes_room = 83

abbrev pub sets_room : ℕ
sets_room = 123

-- an entry, and the line that has one for each column
abbrev pub table_entry_room : ℕ
table_entry_room = 21

abbrev pub entries_room : ℕ
entries_room = max_columns * table_entry_room + 6

abbrev pub sheet_room : ℕ
sheet_room = sizes_room + max_nonterminals * (sets_room + entries_room)
