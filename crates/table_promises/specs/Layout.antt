-- The words of the table (documents 01 and 02: the plate): two sets for each nonterminal, then a row of entries for each.
use Rattle.std.specs.Prelude.{List, ◌++◌, ℕ, ◌*◌, ◌/◌, ◌%◌, eqb}
use Rattle.std.proofs.Math.Option.{Option, none, some}
use Rattle.base.specs.Choice.{choose}
use Rattle.grammar.specs.Codes.{no_entry}
use Rattle.grammar.specs.Limits.{max_table_words, max_table_words_of_two}
use Rattle.grammar.specs.Syntax.{Grammar}
use Rattle.lookahead.specs.declared.Lookahead.{Lookahead}
use Rattle.lookahead.specs.declared.Lookahead.TheVariants.{One, Two}
use Rattle.lookahead.specs.Lookaheads.{tokens}
use Rattle.semantics.specs.Claims.{table_of}
use Rattle.base.specs.Lists.{listed}
use Rattle.families.specs.Sets.{first_number, follow_number}
use Rattle.columns.specs.Columns.{column_string, columns}

abbrev pub entry_word : Option ℕ → ℕ
entry_word none = no_entry
entry_word (some q) = q

unfoldable pub entry_at : Lookahead → Grammar → ℕ → ℕ → ℕ
entry_at k G A c = entry_word (table_of G (tokens k) A (column_string k G.terminals c))

-- the first set of A at 2 × A, the follow set at 2 × A + 1
unfoldable pub set_word : Lookahead → Grammar → ℕ → ℕ
set_word k G i = choose (eqb (i % 2) 0) (first_number k G (i / 2)) (follow_number k G (i / 2))

unfoldable pub row_word : Lookahead → Grammar → ℕ → ℕ
row_word k G i = entry_at k G (i / columns k G) (i % columns k G)

-- all of the table
unfoldable pub table_words : Lookahead → Grammar → List ℕ
table_words k G = listed (2 * G.nonterminals) (set_word k G) ++ listed (G.nonterminals * columns k G) (row_word k G)

-- the memory that is lent for it
abbrev pub table_room : Lookahead → ℕ
table_room One = max_table_words
table_room Two = max_table_words_of_two
