-- What lending leaves of the caller's memory: the words of the table, as they are laid out from the arrays of sets and of entries that are found.
use Rattle.std.specs.Prelude.{List, ◌++◌, ℕ, ◌+◌, ◌-◌, ◌*◌, ◌/◌, ◌%◌, ◌^◌, ◌≤◌, eqb, ltb, length, get_or, drop, replicate}
use Rattle.base.specs.Choice.{choose}
use Rattle.grammar.specs.Codes.{no_entry}
use Rattle.grammar.specs.Limits.{max_nonterminals, max_terminals, max_table_words}
use Rattle.grammar.specs.declared.reading.Sizes.{Sizes}
use Rattle.lookahead.specs.declared.Lookahead.{Lookahead}
use Rattle.lookahead.specs.declared.Lookahead.TheVariants.{One, Two}
use Rattle.base.specs.Lists.{listed}
use Rattle.columns.specs.Columns.{column_count}
use Rattle.table.specs.declared.Found.{Found}
use Rattle.lent_words.specs.inner.Words.{entry_code, lent_sizes}

-- the word at an index
unfoldable pub table_word_at : ℕ → List ℕ → List ℕ → List ℕ → ℕ → ℕ
table_word_at nonterminals firsts follows entries i =
    choose (ltb i (2 * nonterminals)) (choose (eqb (i % 2) 0) (get_or firsts (i / 2) 0) (get_or follows (i / 2) 0))
    (entry_code (get_or entries (i - 2 * nonterminals) 0))

-- as it is stored: in 32 bits with one token of lookahead, in 64 with two
abbrev pub stored_word : Lookahead → ℕ → ℕ
stored_word One w = w % 2 ^ 32
stored_word Two w = w

-- how many words there are
abbrev pub word_count : Lookahead → Sizes → ℕ
word_count k z = z.nonterminals * (2 + column_count k z.terminals)

-- all of them
unfoldable pub laid : Lookahead → Sizes → List ℕ → List ℕ → List ℕ → List ℕ
laid k z firsts follows entries = listed (word_count k z) (λ i. stored_word k (table_word_at z.nonterminals firsts follows entries i))

-- with one token in an array of their own, and no entries behind them
unfoldable pub made_up : Sizes → List ℕ → List ℕ → List ℕ → List ℕ
made_up z firsts follows entries = laid One z firsts follows entries ++ drop (word_count One z) (replicate max_table_words no_entry)

-- memory afterwards: if there is room for the words, they stand in front of what was there
unfoldable pub lent_by : Lookahead → Sizes → (firsts follows entries before : List ℕ) → List ℕ
lent_by k z firsts follows entries before =
    choose (ltb (length before) (word_count k z)) before (laid k z firsts follows entries ++ drop (word_count k z) before)

abbrev pub lent_of : Lookahead → Found → List ℕ → List ℕ
lent_of k found before = lent_by k (lent_sizes found.finding) found.firsts found.follows found.entries before

-- sizes within the limits
pub record SizesGiven (z : Sizes) : Type 0 where
  pub few_nonterminals : z.nonterminals ≤ max_nonterminals
  pub few_terminals : z.terminals ≤ max_terminals
