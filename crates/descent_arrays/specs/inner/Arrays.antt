-- The arrays that the descent reads: their sizes, how the word of a token is made up, and where things stand in them.
use Rattle.std.specs.Prelude.{Bool, List, [], ◌∷◌, ℕ, ◌+◌, ◌-◌, ◌*◌, ◌/◌, ◌%◌, eqb, get_or}
use Rattle.base.specs.Choice.{choose}
use Rattle.grammar.specs.Limits.{max_nonterminals}
use Rattle.descent_arrays.specs.declared.Arrays.{Arrays}

-- the columns of a row of choices, one for each column of the table; the last two tell the input's length, and where the row of the memo
-- table begins
abbrev pub choice_columns : ℕ
choice_columns = 64

abbrev pub row_column : ℕ
row_column = choice_columns - 1

abbrev pub end_column : ℕ
end_column = row_column - 1

-- a row for each nonterminal
abbrev pub choice_words : ℕ
choice_words = max_nonterminals * choice_columns

-- in the word of a token: the terminal at the end of the input, which no grammar has, and the weight of the column of the lookahead string
abbrev pub end_mark : ℕ
end_mark = 255

abbrev pub column_weight : ℕ
column_weight = end_mark + 1

abbrev pub arrays : Arrays
arrays = record {
  choice_columns = choice_columns;
  row_column = row_column;
  end_column = end_column;
  choices = choice_words;
  end_mark = end_mark;
  column_weight = column_weight;
}

-- the input that words of tokens hold: their terminals up to the end
unfoldable pub held_tokens : List ℕ → List ℕ
held_tokens [] = []
held_tokens (t ∷ ts) = choose (eqb (t % column_weight) end_mark) [] (t % column_weight ∷ held_tokens ts)

unfoldable pub matches_at : List ℕ → ℕ → ℕ → Bool
matches_at tokens place a = eqb (get_or tokens place 0 % column_weight) a

-- the number in a column of the row of a nonterminal
abbrev pub choice_at : (choices : List ℕ) (A column : ℕ) → ℕ
choice_at choices A column = get_or choices (A * choice_columns + column) 0

-- where the row of a nonterminal begins in the memo table
unfoldable pub row_at : List ℕ → ℕ → ℕ
row_at choices A = choice_at choices A row_column

-- the input's length, in the row of a nonterminal
unfoldable pub end_at : List ℕ → ℕ → ℕ
end_at choices A = choice_at choices A end_column

-- where the first conjunct stands of the rule for a nonterminal and the lookahead string at a place, or 0
unfoldable pub first_at : (choices tokens : List ℕ) (A place : ℕ) → ℕ
first_at choices tokens A place = choice_at choices A (get_or tokens place 0 / column_weight)
