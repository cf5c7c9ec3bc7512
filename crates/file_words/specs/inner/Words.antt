-- How the words of a file's bytes are loaded.
use Rattle.std.specs.Prelude.{None, Option, Some, ◌≡◌, List, ℕ, ◌+◌, ◌/◌, length, get_or}
use Rattle.std.proofs.lemmas.List.Edits.{sets}
use Rattle.base.specs.Choice.{choose}
use Rattle.file_words.specs.Words.{bytes_of_word, word_of_bytes, words_of, are_words}

-- the word that starts at an index
abbrev pub four_at : List ℕ → ℕ → ℕ
four_at bytes at = word_of_bytes (get_or bytes at 0) (get_or bytes (at + 1) 0) (get_or bytes (at + 2) 0) (get_or bytes (at + 3) 0)

-- the words are put in front, and those behind them keep their contents; what is no row of words changes nothing
pub record Loading (bytes before : List ℕ) (r : Option ℕ) (after : List ℕ) : Type 0 where
  pub told : r ≡ choose (are_words bytes) (Some (length bytes / bytes_of_word)) None
  pub words : after ≡ choose (are_words bytes) (sets before 0 (words_of bytes)) before
