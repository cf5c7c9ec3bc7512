-- What reading a row of words finds, told by encodings alone.
use Rattle.std.specs.Prelude.{Result, ◌≡◌, List, ◌↔◌, ℕ}
use Rattle.answer.specs.declared.Error.{Error}
use Rattle.grammar.specs.declared.reading.Sizes.{Sizes}
use Rattle.grammar.specs.Syntax.{Grammar}
use Rattle.grammar.specs.Encoding.{grammar_of}
use Rattle.grammar.specs.Reading.{reading}
use Rattle.encoding.specs.Encode.{Encodes}
use Rattle.encoding.specs.Diagnosis.{Diagnosis}

-- the outcome of the reading is what there is to tell and nothing else, and the grammar of an encoding is the one that it encodes
pub record FaithfulReading (words : List ℕ) : Type 0 where
  pub outcome : (o : Result Sizes Error) → (reading words ≡ o) ↔ Diagnosis words o
  pub grammar : (G : Grammar) → Encodes words G → grammar_of words ≡ G
