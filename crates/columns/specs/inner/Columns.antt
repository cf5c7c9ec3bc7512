-- The element of a column, and the column of the lookahead string at a place.
use Rattle.std.specs.Prelude.{List, [], ◌∷◌, ℕ, eqb}
use Rattle.base.specs.Choice.{choose}
use Rattle.lookahead.specs.declared.Lookahead.{Lookahead}
use Rattle.lookahead.specs.declared.Lookahead.TheVariants.{One, Two}
use Rattle.lookahead.specs.Lookaheads.{tokens, nothing, element_of}
use Rattle.base.specs.Strings.{look}
use Rattle.columns.specs.Columns.{column_of}

-- the element of a column
unfoldable pub column_element : Lookahead → ℕ → ℕ → ℕ
column_element One terminals c = choose (eqb c terminals) (nothing One) c
column_element Two terminals c = c

-- the column of a token that another follows
unfoldable pub column_before : Lookahead → ℕ → ℕ → ℕ
column_before One a b = a
column_before Two a b = element_of Two (a ∷ b ∷ [])

-- of one that none follows
unfoldable pub column_last : Lookahead → ℕ → ℕ
column_last One a = a
column_last Two a = element_of Two (a ∷ [])

-- and of the end, for n terminals
unfoldable pub column_end : Lookahead → ℕ → ℕ
column_end One n = n
column_end Two n = element_of Two []

-- the column of the lookahead string at a place, for n terminals
unfoldable pub column_at : Lookahead → ℕ → List ℕ → ℕ → ℕ
column_at k n w i = column_of k n (look (tokens k) w i)
