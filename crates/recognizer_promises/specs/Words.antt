-- What holds of a grammar's words, whatever is called: how they are read, that their sets and entries are the least ones, and how long their table is.
use Rattle.std.specs.Prelude.{◌≡◌, List, ℕ, ◌≤◌, length}
use Rattle.grammar.specs.Syntax.{Grammar}
use Rattle.encoding.specs.Encode.{Encodes}
use Rattle.encoding.specs.Faithful.{FaithfulReading}
use Rattle.lookahead.specs.declared.Lookahead.{Lookahead}
use Rattle.lookahead.specs.declared.Lookahead.TheVariants.{One}
use Rattle.admission.specs.Diagnosis.{Diagnosed}
use Rattle.table_promises.specs.Layout.{table_words, table_room}
use Rattle.recognizer_promises.specs.LeastFamilies.{LeastFamilies, StrungFamilies}

-- need not be believed: reading, grammar_of (faithful); admission (admits)
pub record Understood (k : Lookahead) (words : List ℕ) : Type 0 where
  -- the refusals 3 to 7, and the grammar of the words, are reported without the reading that finds them
  pub faithful : FaithfulReading words
  -- and so is what the lookahead takes, just the encodings of grammars that fit it, or refuses besides: 18, and 5 where a rule has no positive
  pub admits : Diagnosed k words
  pub least : (G : Grammar) → Encodes words G → LeastFamilies k G
  pub strung : k ≡ One → (G : Grammar) → Encodes words G → StrungFamilies G
  -- its table is no longer than the memory that is asked for
  pub short : (G : Grammar) → Encodes words G → length (table_words k G) ≤ table_room k
