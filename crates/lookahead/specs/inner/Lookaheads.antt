-- The most terminals that there may be, the element of a string behind another, and that of one terminal.
use Rattle.std.specs.Prelude.{[], ◌∷◌, ◌++◌, ℕ, take}
use Rattle.grammar.specs.Limits.{max_terminals, max_terminals_of_two}
use Rattle.lookahead.specs.declared.Lookahead.{Lookahead}
use Rattle.lookahead.specs.declared.Lookahead.TheVariants.{One, Two}
use Rattle.lookahead.specs.Lookaheads.{tokens, element_of, string_of}

-- the most terminals that there may be
abbrev pub alphabet : Lookahead → ℕ
alphabet One = max_terminals
alphabet Two = max_terminals_of_two

-- the element of the tokens that are looked at where the string of a is followed by that of b
unfoldable pub element_after : Lookahead → ℕ → ℕ → ℕ
element_after k a b = element_of k (take (tokens k) (string_of k a ++ string_of k b))

-- the element for terminal 0 alone
abbrev pub single : Lookahead → ℕ
single k = element_of k (0 ∷ [])
