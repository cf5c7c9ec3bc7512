-- What the search for the costliest input of a length, in a lent log and a lent memo table, finds and leaves there; and what its steps require and
-- ensure.
use Rattle.std.specs.Prelude.{Ok, ◌≡◌, List, ◌∷◌, ◌++◌, ℕ, ◌^◌, ◌≤◌, ltb, length, drop}
use Rattle.std.proofs.Math.Option.{Option}
use Rattle.answer.specs.declared.Error.{Error}
use Rattle.answer.specs.declared.Error.TheVariants.{MemoTooShort, BufferTooShort}
use Rattle.answer.specs.Faults.{fault_if, first_fault}
use Rattle.grammar.specs.Limits.{max_tokens, max_memo_entries}
use Rattle.grammar.specs.Encoding.{grammar_of}
use Rattle.grammar.specs.inner.Starts.{rule_starts}
use Rattle.grammar.specs.declared.reading.Sizes.{Sizes}
use Rattle.lookahead.specs.declared.Lookahead.TheVariants.{One}
use Rattle.admission.specs.Admission.{admission}
use Rattle.inputs.specs.Inputs.{max_inputs}
use Rattle.semantics.specs.LeftRecursion.{NoLeftRecursion}
use Rattle.table.specs.inner.Entries.{entries_of}
use Rattle.table_promises.specs.Analysis.{grammar_faults}
use Rattle.table.specs.inner.Analysis.{found_of}
use Rattle.table.specs.declared.Found.{Found}
use Rattle.promises.specs.Lengths.{length_faults}
use Rattle.promises.specs.Memory.{lent_back}
use Rattle.recognizer_promises.specs.Memory.{memo_words}
use Rattle.recognizer_promises.specs.inner.Judging.{found_unless}
use Rattle.recognizer_promises.specs.CostliestInput.{costliest_input}

-- why it is refused: as judging the costliest input is, but for the table's length
unfoldable pub search_fault : ℕ → ℕ → List ℕ → ℕ → Option Error
search_fault log memo words k =
    first_fault
    (fault_if (ltb memo max_memo_entries) MemoTooShort
    ∷ fault_if (ltb log max_tokens) BufferTooShort
    ∷ grammar_faults One words
    ++ length_faults (grammar_of words).terminals k)

-- the first refusal that holds decides what is found, and a refusal changes nothing; else the costliest input and its entries, each in front of what
-- was there
pub record SearchesWords (words : List ℕ) (k : ℕ) (log memo : List ℕ) (r : Found) (log' memo' : List ℕ) : Type 0 where
  pub grammar : r ≡ found_unless (search_fault (length log) (length memo) words k) (found_of One words)
  pub lent_log : log' ≡ lent_back (search_fault (length log) (length memo) words k) (costliest_input (grammar_of words) k) log
  pub lent_memo : memo'
      ≡ lent_back (search_fault (length log) (length memo) words k) (memo_words One (grammar_of words) (costliest_input (grammar_of words) k)) memo

-- a grammar that passes, with its sizes, where its rules begin, and its entries; room for an input of which there are not too many; and a memo table that
-- is long enough
pub record SearchGiven (words : List ℕ) (z : Sizes) (starts entries events memo : List ℕ) : Type 0 where
  pub taken : admission One words ≡ Ok z
  pub free : NoLeftRecursion (grammar_of words)
  pub begins : starts ≡ rule_starts words
  pub entered : entries ≡ entries_of One (grammar_of words)
  pub short : length events ≤ max_tokens
  pub few : z.terminals ^ length events ≤ max_inputs
  pub room : max_memo_entries ≤ length memo

-- the costliest input is written, and its entries in front of what was there
pub record BestLeft (words events memo events' memo' : List ℕ) : Type 0 where
  pub written : events' ≡ costliest_input (grammar_of words) (length events)
  pub entries : memo' ≡ memo_words One (grammar_of words) events' ++ drop (length (memo_words One (grammar_of words) events')) memo
