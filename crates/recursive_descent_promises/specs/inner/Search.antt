-- What the steps of the search for the costliest input require and ensure.
use Rattle.std.specs.Prelude.{Ok, ◌≡◌, List, ℕ, suc, ◌+◌, ◌*◌, ◌^◌, ◌≤◌, length}
use Rattle.grammar.specs.Limits.{max_tokens}
use Rattle.grammar.specs.Encoding.{grammar_of}
use Rattle.grammar.specs.declared.reading.Sizes.{Sizes}
use Rattle.lookahead.specs.declared.Lookahead.TheVariants.{One}
use Rattle.admission.specs.Admission.{admission}
use Rattle.inputs.specs.Inputs.{max_inputs}
use Rattle.inputs.specs.inner.Inputs.{input_at, input_count}
use Rattle.semantics.specs.LeftRecursion.{NoLeftRecursion}
use Rattle.recognizer_promises.specs.Memory.{memo_words}
use Rattle.recognizer_promises.specs.CostliestInput.{calls_on, costliest_input}
use Rattle.recursive_descent_promises.specs.inner.Judging.{table_rows}

-- a grammar that passes, with its sizes and the last of its terminals; the choices and the entries for inputs as long as the lent events, and
-- not too many such inputs
pub record TrialGiven (words choices : List ℕ) (last : ℕ) (events memo : List ℕ) : Type 0 where
  pub sizes : Sizes
  pub taken : admission One words ≡ Ok sizes
  pub highest : last + 1 ≡ sizes.terminals
  pub free : NoLeftRecursion (grammar_of words)
  pub made : choices ≡ table_rows One words sizes (length events)
  pub size : length memo ≡ (grammar_of words).nonterminals * suc (length events)
  pub short : length events ≤ max_tokens
  pub few : sizes.terminals ^ length events ≤ max_inputs

-- and how many such inputs there are
pub record TrialsGiven (words choices : List ℕ) (last inputs : ℕ) (events memo : List ℕ) : Type 0 where
  pub trial : TrialGiven words choices last events memo
  pub counted : inputs ≡ input_count trial.sizes.terminals (length events)

-- the input of a number is written, its entries are left, and its calls are counted
pub record Tried (words : List ℕ) (k number calls : ℕ) (events' memo' : List ℕ) : Type 0 where
  pub written : events' ≡ input_at (grammar_of words).terminals k number
  pub entries : memo' ≡ memo_words One (grammar_of words) events'
  pub counted : calls ≡ calls_on (grammar_of words) events'

-- the costliest input of k tokens is written, and its entries are left
pub record CostliestLeft (words : List ℕ) (k : ℕ) (events' memo' : List ℕ) : Type 0 where
  pub written : events' ≡ costliest_input (grammar_of words) k
  pub entries : memo' ≡ memo_words One (grammar_of words) events'
