-- How many tokens are looked at, and the strings of at most so many terminals as elements of lookahead sets.
use Rattle.std.specs.Prelude.{List, [], ◌∷◌, ℕ, ◌+◌, ◌-◌, ◌*◌, ◌/◌, ◌%◌, eqb, ltb}
use Rattle.base.specs.Choice.{choose}
use Rattle.grammar.specs.Limits.{max_columns, max_columns_of_two}
use Rattle.lookahead.specs.declared.Lookahead.{Lookahead}
use Rattle.lookahead.specs.declared.Lookahead.TheVariants.{One, Two}

abbrev pub tokens : Lookahead → ℕ
tokens One = 1
tokens Two = 2

-- the elements of sets are the numbers below it
abbrev pub elements : Lookahead → ℕ
elements One = max_columns
elements Two = max_columns_of_two

-- the element for the end of the input and the empty string (document 01: "nothing")
abbrev pub nothing : Lookahead → ℕ
nothing One = 24
nothing Two = 0

-- the element that stands for a string (document 01: l for letter l; document 02: 1 + l for a last letter l, 8 + 7 × l + r for l then r)
abbrev pub element_of : Lookahead → List ℕ → ℕ
element_of One [] = nothing One
element_of One (a ∷ x) = a
element_of Two [] = nothing Two
element_of Two (a ∷ []) = 1 + a
element_of Two (a ∷ b ∷ x) = 8 + 7 * a + b

-- and the string that an element stands for
unfoldable pub string_of : Lookahead → ℕ → List ℕ
string_of One l = choose (eqb l (nothing One)) [] (l ∷ [])
string_of Two l = choose (eqb l (nothing Two)) [] (choose (ltb l 8) ((l - 1) ∷ []) (((l - 8) / 7) ∷ ((l - 8) % 7) ∷ []))
