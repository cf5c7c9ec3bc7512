-- The limits of documents 01 and 02.
use Rattle.std.specs.Prelude.{ℕ, ◌+◌, ◌*◌, ◌/◌}

-- how long an encoded grammar may be, and how many nonterminals, terminals and rules it may have
abbrev pub max_words : ℕ
max_words = 2048

abbrev pub max_nonterminals : ℕ
max_nonterminals = 32

abbrev pub max_terminals : ℕ
max_terminals = 24

abbrev pub max_rules : ℕ
max_rules = 128

-- how long an input may be
abbrev pub max_tokens : ℕ
max_tokens = 412

-- a row of the table has a column for each terminal and one for the end
abbrev pub max_columns : ℕ
max_columns = max_terminals + 1

-- with two tokens of lookahead a grammar has fewer terminals
abbrev pub max_terminals_of_two : ℕ
max_terminals_of_two = 7

-- and a row has a column for the end, one for each last terminal and one for each two terminals
abbrev pub max_columns_of_two : ℕ
max_columns_of_two = 1 + max_terminals_of_two + max_terminals_of_two * max_terminals_of_two

-- an input has a place before each token and one at its end
abbrev pub max_places : ℕ
max_places = max_tokens + 1

-- the lent table holds two sets for each nonterminal, and a row for each
abbrev pub max_table_words : ℕ
max_table_words = max_nonterminals * (2 + max_columns)

-- and with two tokens of lookahead
abbrev pub max_table_words_of_two : ℕ
max_table_words_of_two = max_nonterminals * (2 + max_columns_of_two)

-- the lent memo table holds an entry for each nonterminal and place
abbrev pub max_memo_entries : ℕ
max_memo_entries = max_nonterminals * max_places

-- how long an input of the tabular recognizer may be
abbrev pub max_tabular_tokens : ℕ
max_tabular_tokens = 48

-- the places of such an input
abbrev pub max_tabular_places : ℕ
max_tabular_places = max_tabular_tokens + 1

-- the lent words of the spans are one for each span of such an input: from each place to itself and to each behind it
abbrev pub max_span_words : ℕ
max_span_words = max_tabular_places * (max_tabular_places + 1) / 2
