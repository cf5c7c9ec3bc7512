-- What is to be told of a row of words: the sizes of the grammar that it encodes, or its first fault. No reading occurs in it.
use Rattle.std.specs.Prelude.{Err, Ok, Result, ◌≡◌, List, [], ◌∷◌, ◌++◌, ℕ, suc, ◌≤◌, ◌<◌, length, take, get_or}
use Rattle.grammar.specs.declared.reading.Sizes.{Sizes}
use Rattle.answer.specs.declared.Error.{Error}
use Rattle.answer.specs.declared.Error.TheVariants.{Length, Heading, UnexpectedWord, OutOfRange, TooManyRules}
use Rattle.word.specs.declared.Symbol.TheVariants.{Terminal, Nonterminal}
use Rattle.word.specs.Words.{kind, payload}
use Rattle.grammar.specs.Limits.{max_words, max_rules}
use Rattle.grammar.specs.Syntax.{Grammar}
use Rattle.encoding.specs.Encode.{symbol_word, end_word, sizes_of, Encodes}

-- the words begin the encoding, however long, of a well-formed grammar within the limits
pub record BeginsEncoding (words : List ℕ) : Type 0 where
  pub rest : List ℕ
  pub grammar : Grammar
  pub encodes : Encodes (words ++ rest) grammar

-- the words are no encoding, and i is how many of them, at most, begin one; where the end is missing that is all of them
pub record FirstFault (words : List ℕ) (i : ℕ) : Type 0 where
  pub among : i ≤ length words
  pub before : BeginsEncoding (take i words)
  pub here : i < length words → BeginsEncoding (take (suc i) words) → ⊥
  pub whole : (G : Grammar) → Encodes words G → ⊥

-- a word of its kind may stand at i, but its number is not below the heading's: a rule may begin where the grammar may end, and a symbol may stand
-- where the one of its kind with number 0 may
pub data OutOfRangeAt (words : List ℕ) (i : ℕ) : Type 0 where
  head : {G : Grammar} → kind (get_or words i 0) ≡ 2 → Encodes (take i words ++ (end_word ∷ [])) G → G.nonterminals ≤ payload (get_or words i 0)
      → OutOfRangeAt words i
  terminal : kind (get_or words i 0) ≡ 5 → (b : BeginsEncoding (take i words ++ (symbol_word (Terminal 0) ∷ [])))
      → b.grammar.terminals ≤ payload (get_or words i 0)
      → OutOfRangeAt words i
  nonterminal : kind (get_or words i 0) ≡ 6 → (b : BeginsEncoding (take i words ++ (symbol_word (Nonterminal 0) ∷ [])))
      → b.grammar.nonterminals ≤ payload (get_or words i 0)
      → OutOfRangeAt words i

-- the word at i begins a rule, and the rules before it are as many as there may be
pub record RuleTooMany (words : List ℕ) (i : ℕ) : Type 0 where
  pub begins : kind (get_or words i 0) ≡ 2
  pub grammar : Grammar
  pub before : Encodes (take i words ++ (end_word ∷ [])) grammar
  pub in_range : payload (get_or words i 0) < grammar.nonterminals
  pub full : length grammar.rules ≡ max_rules

-- what is wrong with the first word that no encoding goes on with: 6, 7, or else 5
pub data WordFault (words : List ℕ) (i : ℕ) : Error → Type 0 where
  unexpected : (OutOfRangeAt words i → ⊥) → (RuleTooMany words i → ⊥) → WordFault words i (UnexpectedWord i)
  out_of_range : OutOfRangeAt words i → WordFault words i (OutOfRange i)
  too_many : RuleTooMany words i → WordFault words i (TooManyRules i)

-- 3, 4, a fault of the first faulty word, or none of them
pub data Diagnosis (words : List ℕ) : Result Sizes Error → Type 0 where
  long : max_words < length words → Diagnosis words (Err Length)
  heading : length words ≤ max_words → FirstFault words 0 → Diagnosis words (Err Heading)
  behind : {i : ℕ} {x : Error} → length words ≤ max_words → 0 < i → FirstFault words i → WordFault words i x → Diagnosis words (Err x)
  encoding : {G : Grammar} → length words ≤ max_words → Encodes words G → Diagnosis words (Ok (sizes_of G))
