-- Bytes as words, worked by computation.
use mathlib.Core.Path.{◌≡◌, refl}
use mathlib.Core.Bool.{true, false}
use mathlib.Core.List.{[], ◌∷◌}
use Rattle.file_words.specs.Words.{words_of, are_words}

-- low byte first: the heading of one nonterminal and one terminal, and a rule's begin
words_low_first : words_of (1 ∷ 1 ∷ 0 ∷ 16 ∷ 0 ∷ 0 ∷ 0 ∷ 32 ∷ []) ≡ 0x10000101 ∷ 0x20000000 ∷ []
unfolding words_of
words_low_first = refl

-- no bytes are no words, and a length is that of words when four divides it
none_are_words : are_words [] ≡ true
unfolding are_words
none_are_words = refl

three_are_not : are_words (1 ∷ 1 ∷ 0 ∷ []) ≡ false
unfolding are_words
three_are_not = refl
