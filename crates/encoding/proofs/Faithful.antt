-- What reading finds and which grammar it gives, told by encodings alone.
use Rattle.std.specs.Prelude.{Result}
use Rattle.answer.specs.declared.Error.{Error}
use Rattle.grammar.specs.declared.reading.Sizes.{Sizes}
use mathlib.Core.Path.{◌≡◌}
use mathlib.Core.List.{List}
use mathlib.Core.Logic.{◌↔◌}
use Prim.Native.Nat.{ℕ}
use Rattle.grammar.specs.Reading.{reading}
use Rattle.encoding.specs.Diagnosis.{Diagnosis}
use Rattle.encoding.specs.Faithful.{FaithfulReading}
use Rattle.encoding.proofs.Decoding.{encodes_grammar}
use Rattle.encoding.proofs.Diagnosis.{diagnosed_reading}
use Rattle.encoding.proofs.OneDiagnosis.{one_diagnosis}

-- a reading finds what there is to tell, and nothing else
pub reading_diagnosed : (words : List ℕ) (o : Result Sizes Error) → (reading words ≡ o) ↔ Diagnosis words o
reading_diagnosed words o = (λ e. rw e at (diagnosed_reading words), λ d. one_diagnosis words (reading words) o (diagnosed_reading words) d)

pub faithful : (words : List ℕ) → FaithfulReading words
faithful words = record { outcome = reading_diagnosed words; grammar = encodes_grammar words }
