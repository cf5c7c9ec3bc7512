-- The rows of choices: for each nonterminal and column where the first conjunct stands of the rule to run, then what a call reads beside it.
use Rattle.std.specs.Prelude.{◌≡◌, List, ℕ, ◌+◌, ◌*◌, ◌/◌, ◌%◌, ◌≤◌, ◌<◌, min, eqb, ltb, get_or}
use Rattle.base.specs.Choice.{choose}
use Rattle.grammar.specs.Limits.{max_words, max_nonterminals, max_rules, max_columns_of_two, max_tokens}
use Rattle.base.specs.Lists.{listed}
use Rattle.descent_arrays.specs.inner.Arrays.{choice_columns, row_column, end_column, choice_words}

-- the entry of A in a column, in rows of so many columns
abbrev pub entry_of : (columns : ℕ) (entries : List ℕ) (A c : ℕ) → ℕ
entry_of columns entries A c = get_or entries (A * columns + c) 0

-- where the first conjunct of a rule stands, or 0 for a number that no rule has
unfoldable pub first_word : List ℕ → ℕ → ℕ
first_word starts rule = choose (ltb rule max_rules) (get_or starts rule 0 % max_words + 1) 0

-- a column of the row of A, for an input of so many tokens
unfoldable pub choice_word : (starts : List ℕ) (columns : ℕ) (entries : List ℕ) (tokens A c : ℕ) → ℕ
choice_word starts columns entries tokens A c =
    choose (ltb c columns) (first_word starts (entry_of columns entries A c))
    (choose (eqb c end_column) tokens (choose (eqb c row_column) (A * (tokens + 1)) 0))

-- the rows of the first n nonterminals, and zeros behind them
unfoldable pub choice_rows : (starts : List ℕ) (columns : ℕ) (entries : List ℕ) (tokens n : ℕ) → List ℕ
choice_rows starts columns entries tokens n =
    listed choice_words (λ x. choose (ltb (x / choice_columns) n) (choice_word starts columns entries tokens (x / choice_columns) (x % choice_columns)) 0)

-- of no more nonterminals, columns and tokens than the limits allow
unfoldable pub choices_of : (starts : List ℕ) (nonterminals columns : ℕ) (entries : List ℕ) (tokens : ℕ) → List ℕ
choices_of starts nonterminals columns entries tokens =
    choice_rows starts (min columns max_columns_of_two) entries (min tokens max_tokens) (min nonterminals max_nonterminals)

-- how many entries a memo table for that many has
unfoldable pub memo_entries : (nonterminals tokens : ℕ) → ℕ
memo_entries nonterminals tokens = min nonterminals max_nonterminals * (min tokens max_tokens + 1)

-- the rows before A are written
pub record RowGiven (starts : List ℕ) (columns : ℕ) (entries : List ℕ) (tokens A : ℕ) (choices : List ℕ) : Type 0 where
  pub named : A < max_nonterminals
  pub few_columns : columns ≤ max_columns_of_two
  pub short : tokens ≤ max_tokens
  pub before : choices ≡ choice_rows starts columns entries tokens A
