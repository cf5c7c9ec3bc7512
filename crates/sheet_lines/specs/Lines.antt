-- The parts of a sheet (document 01: the sheet) that need no sizes: its first line, the line of a nonterminal's sets, and an entry.
use Rattle.std.specs.Prelude.{List, ◌++◌, ℕ, ◌+◌, ◌*◌, get_or}
use Prim.Native.String.{String}
use Rattle.grammar.specs.Codes.{no_entry}
use Rattle.grammar.specs.declared.reading.Sizes.{Sizes}
use Rattle.lookahead.specs.Elements.{size}
use Rattle.text.specs.Ascii.{ascii}
use Rattle.text.specs.Decimal.{labelled, or_dash}

-- a word of the table; behind its end there is none
abbrev pub sheet_word_at : List ℕ → ℕ → ℕ
sheet_word_at table i = get_or table i no_entry

unfoldable pub sizes_line : Sizes → List ℕ
sizes_line z = labelled "names " z.nonterminals ++ labelled " letters " z.terminals ++ labelled " rules " z.rules ++ ascii "\n"

-- a set in decimal, and how many elements it has
abbrev pub set_text : String → ℕ → List ℕ
set_text label set = labelled label set ++ labelled " " (size set)

-- a nonterminal and its two sets
unfoldable pub sets_line : List ℕ → ℕ → List ℕ
sets_line table A =
    labelled "name " A ++ set_text " first " (sheet_word_at table (2 * A)) ++ set_text " follow " (sheet_word_at table (2 * A + 1)) ++ ascii "\n"

-- a rule's number, or a dash
abbrev pub table_entry_text : ℕ → List ℕ
table_entry_text entry = or_dash no_entry entry
