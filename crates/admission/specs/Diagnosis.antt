-- What is to be told of a row of words with a lookahead: the sizes of the grammar that it encodes and that fits, or its first fault. No reading occurs in it.
use Rattle.std.specs.Prelude.{Err, Ok, Result, ◌≡◌, List, ◌++◌, ◌↔◌, ℕ, suc, ◌≤◌, ◌<◌, length, take}
use Rattle.grammar.specs.declared.reading.Sizes.{Sizes}
use Rattle.answer.specs.declared.Error.{Error}
use Rattle.answer.specs.declared.Error.TheVariants.{Length, Heading, UnexpectedWord, TooManyTerminals}
use Rattle.grammar.specs.Limits.{max_words}
use Rattle.grammar.specs.Syntax.{Grammar}
use Rattle.encoding.specs.Encode.{sizes_of, Encodes}
use Rattle.encoding.specs.Diagnosis.{FirstFault, WordFault}
use Rattle.lookahead.specs.declared.Lookahead.{Lookahead}
use Rattle.admission.specs.Admission.{Fits, admission}

-- the words begin the encoding, however long, of a grammar that fits
pub record BeginsEncodingBy (k : Lookahead) (words : List ℕ) : Type 0 where
  pub rest : List ℕ
  pub grammar : Grammar
  pub encodes : Encodes (words ++ rest) grammar
  pub fits : Fits k grammar

-- the words encode no grammar that fits, and i is how many of them, at most, begin to
pub record FirstFaultBy (k : Lookahead) (words : List ℕ) (i : ℕ) : Type 0 where
  pub among : i ≤ length words
  pub before : BeginsEncodingBy k (take i words)
  pub here : i < length words → BeginsEncodingBy k (take (suc i) words) → ⊥
  pub whole : (G : Grammar) → Encodes words G → Fits k G → ⊥

-- what is wrong there: with the heading, or behind it with a word, by itself or by the lookahead alone. A heading that encodings begin with, but none of a
-- grammar that fits, has too many terminals; a word that encodings go on with, but none of a grammar that fits, is unexpected: it begins a negative of a
-- rule without positives
pub data FaultBy (words : List ℕ) (i : ℕ) : Error → Type 0 where
  heading : i ≡ 0 → FirstFault words i → FaultBy words i Heading
  terminals : i ≡ 0 → (FirstFault words i → ⊥) → FaultBy words i TooManyTerminals
  word : {x : Error} → 0 < i → FirstFault words i → WordFault words i x → FaultBy words i x
  alone : 0 < i → (FirstFault words i → ⊥) → FaultBy words i (UnexpectedWord i)

-- 3, a fault of the first faulty word, or none of them
pub data DiagnosisBy (k : Lookahead) (words : List ℕ) : Result Sizes Error → Type 0 where
  long : max_words < length words → DiagnosisBy k words (Err Length)
  fault : {i : ℕ} {x : Error} → length words ≤ max_words → FirstFaultBy k words i → FaultBy words i x → DiagnosisBy k words (Err x)
  encoding : {G : Grammar} → length words ≤ max_words → Encodes words G → Fits k G → DiagnosisBy k words (Ok (sizes_of G))

-- what is admitted is what there is to tell and nothing else
abbrev pub Diagnosed : Lookahead → List ℕ → Type 0
Diagnosed k words = (o : Result Sizes Error) → (admission k words ≡ o) ↔ DiagnosisBy k words o
