-- The sheet of a grammar (document 01: the sheet), line by line, from the words of its table.
use Rattle.std.specs.Prelude.{Err, Ok, Result, List, ◌++◌, ℕ, ◌+◌, ◌*◌}
use Rattle.answer.specs.declared.Error.{Error}
use Rattle.grammar.specs.declared.reading.Sizes.{Sizes}
use Rattle.text.specs.Ascii.{ascii}
use Rattle.text.specs.Writing.{up_to}
use Rattle.refusal_text.specs.Refusal.{refusal_text}
use Rattle.sheet_lines.specs.Lines.{sheet_word_at, sizes_line, sets_line, table_entry_text}

-- the entries of a row that starts at an index of the table
unfoldable pub entries_line : List ℕ → ℕ → ℕ → List ℕ
entries_line table start columns = ascii "cells" ++ up_to columns (λ c. table_entry_text (sheet_word_at table (start + c))) ++ ascii "\n"

-- the two lines of a nonterminal: its sets, and its row, which has a column for each terminal and one for the end
unfoldable pub nonterminal_text : Sizes → List ℕ → ℕ → List ℕ
nonterminal_text z table A =
    sets_line table A ++ entries_line table (2 * z.nonterminals + A * (z.terminals + 1)) (z.terminals + 1)

-- the sheet of a grammar of these sizes
unfoldable pub sheet_text : Sizes → List ℕ → List ℕ
sheet_text z table = sizes_line z ++ up_to z.nonterminals (nonterminal_text z table)

-- what is printed of a check, by what is found: the refusal, or the sheet
abbrev pub check_text : Result Sizes Error → List ℕ → List ℕ
check_text (Err e) table = refusal_text e
check_text (Ok z) table = sheet_text z table
