-- The words of the tokens: for each place the terminal, or the mark of the end, and the column of the lookahead string.
use Rattle.std.specs.Prelude.{List, ℕ, ◌+◌, ◌*◌, ◌%◌, ltb, length, get_or}
use Rattle.base.specs.Choice.{choose}
use Rattle.grammar.specs.Limits.{max_places}
use Rattle.lookahead.specs.declared.Lookahead.{Lookahead}
use Rattle.base.specs.Lists.{listed}
use Rattle.columns.specs.inner.Columns.{column_at}
use Rattle.descent_arrays.specs.inner.Arrays.{end_mark, column_weight}

-- of a column, what fits is kept
abbrev pub token_word : (column mark : ℕ) → ℕ
token_word column mark = column % column_weight * column_weight + mark

-- the terminal at a place, or the mark of the end
unfoldable pub mark_at : List ℕ → ℕ → ℕ
mark_at w i = choose (ltb i (length w)) (get_or w i 0) end_mark

-- the words of an input, for a grammar of n terminals
unfoldable pub tokens_of : Lookahead → ℕ → List ℕ → List ℕ
tokens_of k n w = listed max_places (λ i. token_word (column_at k n w i) (mark_at w i))
