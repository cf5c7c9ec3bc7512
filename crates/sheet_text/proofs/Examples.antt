-- A sheet, worked by computation.
use mathlib.Core.Path.{◌≡◌, refl}
use mathlib.Core.List.{[], ◌∷◌}
use Rattle.grammar.specs.Encoding.{sizes}
use Rattle.base.specs.Quantifiers.{count_below}
use Rattle.lookahead.specs.Elements.{has, size}
use Rattle.text.specs.Ascii.{ascii}
use Rattle.text.specs.Decimal.{digits, decimal, or_dash}
use Rattle.text.specs.Writing.{up_to}
use Rattle.sheet_lines.specs.Lines.{sizes_line, sets_line, table_entry_text}
use Rattle.sheet_text.specs.Sheet.{entries_line, nonterminal_text, sheet_text}

-- the text that document 01 shows of card R
sheet_R : sheet_text (sizes 1 1 2) (16777217 ∷ 16777216 ∷ 0 ∷ 1 ∷ [])
    ≡ ascii "names 1 letters 1 rules 2\nname 0 first 16777217 2 follow 16777216 1\ncells 0 1\n"
unfolding sheet_text sizes_line nonterminal_text sets_line entries_line or_dash up_to decimal digits size count_below has
sheet_R = refl

-- a dash for no entry
dash : table_entry_text 4294967295 ≡ ascii " -"
unfolding or_dash
dash = refl
