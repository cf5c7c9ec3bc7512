-- The entries of all rows, and all limits in one record, to which the constants of the code are tied.
use Rattle.std.specs.Prelude.{ℕ, ◌*◌}
use Rattle.grammar.specs.declared.limits.Limits.{Limits}
use Rattle.grammar.specs.Limits.{max_words, max_nonterminals, max_terminals, max_rules, max_tokens, max_columns, max_terminals_of_two, max_columns_of_two}
use Rattle.grammar.specs.Limits.{max_places, max_table_words, max_table_words_of_two, max_memo_entries, max_tabular_tokens, max_tabular_places, max_span_words}

-- the entries of all rows, whichever the lookahead
abbrev pub max_entries : ℕ
max_entries = max_nonterminals * max_columns_of_two

abbrev pub limited : Limits
limited = record {
  words = max_words;
  nonterminals = max_nonterminals;
  terminals = max_terminals;
  rules = max_rules;
  tokens = max_tokens;
  columns = max_columns;
  terminals_of_two = max_terminals_of_two;
  columns_of_two = max_columns_of_two;
  entries = max_entries;
  places = max_places;
  table_words = max_table_words;
  table_words_of_two = max_table_words_of_two;
  memo_entries = max_memo_entries;
  tabular_tokens = max_tabular_tokens;
  tabular_places = max_tabular_places;
  span_words = max_span_words;
}
