-- The words that a file's bytes are, low byte first.
use Rattle.std.specs.Prelude.{Bool, ◌&&◌, List, [], ◌∷◌, ℕ, ◌+◌, ◌*◌, ◌%◌, eqb, leb, length}
use Rattle.grammar.specs.Limits.{max_words}

abbrev pub bytes_of_word : ℕ
bytes_of_word = 4

-- the word of four bytes
abbrev pub word_of_bytes : ℕ → ℕ → ℕ → ℕ → ℕ
word_of_bytes a b c d = a + 256 * b + 65536 * c + 16777216 * d

-- four bytes at a time; fewer at the end are no word
unfoldable pub words_of : List ℕ → List ℕ
words_of [] = []
words_of (a ∷ []) = []
words_of (a ∷ b ∷ []) = []
words_of (a ∷ b ∷ c ∷ []) = []
words_of (a ∷ b ∷ c ∷ d ∷ rest) = word_of_bytes a b c d ∷ words_of rest

-- a file is one of words when its length is that of some words, and of no more than a grammar may have
unfoldable pub are_words : List ℕ → Bool
are_words bytes = leb (length bytes) (bytes_of_word * max_words) && eqb (length bytes % bytes_of_word) 0
