-- What judging the costliest input of a length promises, on one page.
use Rattle.std.specs.Prelude.{◌≡◌, List, [], ◌∷◌, ℕ, ◌^◌, ◌≤◌, length}
use Rattle.answer.specs.declared.Answer.{Answer}
use Rattle.answer.specs.Numbers.{refused, numbers}
use Rattle.grammar.specs.Limits.{max_words, max_tokens}
use Rattle.grammar.specs.Syntax.{Grammar}
use Rattle.grammar.specs.Encoding.{grammar_of}
use Rattle.encoding.specs.Encode.{Encodes}
use Rattle.lookahead.specs.declared.Lookahead.TheVariants.{One}
use Rattle.inputs.specs.Inputs.{max_inputs}
use Rattle.inputs.specs.Costliest.{CostliestOf}
use Rattle.base.specs.Strings.{Over}
use Rattle.table_promises.specs.Layout.{table_words}
use Rattle.promises.specs.Leaving.{lent, Leaves}
use Rattle.recognizer_promises.specs.Words.{Understood}
use Rattle.recognizer_promises.specs.Memory.{memo_words}
use Rattle.recognizer_promises.specs.Answers.{verdict_of}
use Rattle.recognizer_promises.specs.CostliestInput.{calls_on, costliest_input, costliest_fault}
use Rattle.recognizer_promises.specs.Properties.{PassedGrammar, Places, Room, Judges}

-- a grammar that passes, and a length that is not too great, of which there are not too many inputs
pub record Searchable (words : List ℕ) (n : ℕ) : Type 0 where
  pub passed : PassedGrammar One words
  pub short : n ≤ max_tokens
  pub few : (grammar_of words).terminals ^ n ≤ max_inputs

-- the input w of n tokens is judged; no input of so many makes more calls, and each that comes before it makes fewer; its events have no direction
pub record Searched (words : List ℕ) (n : ℕ) (w table memo : List ℕ) (r : Answer) (table' memo' : List ℕ) : Type 0 where
  pub judges : Judges One words w table memo r table' memo'
  pub costliest : CostliestOf (calls_on (grammar_of words)) (grammar_of words).terminals n w
  pub undirected : Over 128 w

-- for a grammar and a length n, with a lent log, a lent table and a lent memo table
-- need not be believed: costliest_input (searched)
pub record JudgesCostliest (words : List ℕ) (n : ℕ) (log table memo : List ℕ) (r : Answer) (log' table' memo' : List ℕ) : Type 0 where
  pub understood : Understood One words
  -- the costliest input stands in front of what the log held, and answer and memories are those of judging it
  pub leaves : Leaves (costliest_fault (length log) (length table) (length memo) words n)
      (verdict_of One (grammar_of words) (costliest_input (grammar_of words) n)) r
      (lent log (costliest_input (grammar_of words) n) log'
      ∷ lent table (table_words One (grammar_of words)) table'
      ∷ lent memo (memo_words One (grammar_of words) (costliest_input (grammar_of words) n)) memo'
      ∷ [])
  pub places : max_tokens ≤ length log → Room One table memo → length words ≤ max_words → (G : Grammar) → Encodes words G → Places One G r
  -- a call is taken where the memories are long enough, for a grammar that passes and such a length
  pub taken : max_tokens ≤ length log → Room One table memo → Searchable words n → (numbers r).verdict ≡ refused → ⊥
  pub searched : ((numbers r).verdict ≡ refused → ⊥) → Searched words n (costliest_input (grammar_of words) n) table memo r table' memo'
