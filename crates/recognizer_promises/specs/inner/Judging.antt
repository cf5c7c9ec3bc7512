-- What a descent in a lent memo table finds and leaves there; and what its steps require and ensure.
use Rattle.std.specs.Prelude.{Err, Ok, Result, ◌≡◌, List, ◌∷◌, ◌++◌, ℕ, ◌≤◌, ltb, length}
use Rattle.std.proofs.Math.Option.{Option, none, some}
use Rattle.answer.specs.declared.Error.{Error}
use Rattle.answer.specs.declared.Error.TheVariants.{MemoTooShort}
use Rattle.answer.specs.Faults.{fault_if, first_fault}
use Rattle.grammar.specs.Limits.{max_tokens, max_memo_entries}
use Rattle.grammar.specs.Encoding.{grammar_of}
use Rattle.grammar.specs.inner.Starts.{rule_starts}
use Rattle.grammar.specs.declared.reading.Sizes.{Sizes}
use Rattle.lookahead.specs.declared.Lookahead.{Lookahead}
use Rattle.admission.specs.Admission.{admission}
use Rattle.semantics.specs.Valuations.{pairs}
use Rattle.semantics.specs.LeftRecursion.{NoLeftRecursion}
use Rattle.base.specs.Strings.{Over}
use Rattle.table.specs.inner.Entries.{entries_of}
use Rattle.table.specs.declared.Found.{Found}
use Rattle.table_promises.specs.Analysis.{grammar_faults, fault}
use Rattle.table.specs.inner.Analysis.{found_with, found_of}
use Rattle.promises.specs.Memory.{lent_back}
use Rattle.recognizer_promises.specs.Memory.{memo_words}
use Rattle.recognizer_promises.specs.Answers.{input_faults}

-- why it is refused: as judging is, but for the table's length
unfoldable pub memo_fault : Lookahead → ℕ → List ℕ → List ℕ → Option Error
memo_fault k memo words input =
    first_fault (fault_if (ltb memo max_memo_entries) MemoTooShort ∷ grammar_faults k words ++ input_faults (grammar_of words).terminals input)

-- what is found of a grammar, but with this finding in place of its own
abbrev pub refound : Found → Result Sizes Error → Found
refound r f = found_with f r.starts r.firsts r.follows r.entries

-- what is found of a grammar; where there is an error, with that in place of its finding
abbrev pub found_unless : Option Error → Found → Found
found_unless none r = r
found_unless (some e) r = refound r (Err e)

-- the first refusal that holds decides what is found, and a refusal changes nothing; else the entries stand in front of what was there
pub record DescendsWords (k : Lookahead) (words input memo : List ℕ) (r : Found) (memo' : List ℕ) : Type 0 where
  pub grammar : r ≡ found_unless (memo_fault k (length memo) words input) (found_of k words)
  pub lent : memo' ≡ lent_back (memo_fault k (length memo) words input) (memo_words k (grammar_of words) input) memo

-- what is found of a grammar that passes: its sizes, no fault, where its rules begin, and its entries
pub record EntriesFound (k : Lookahead) (words : List ℕ) (z : Sizes) (starts entries : List ℕ) : Type 0 where
  pub taken : admission k words ≡ Ok z
  pub faultless : fault k words ≡ none
  pub begins : starts ≡ rule_starts words
  pub entered : entries ≡ entries_of k (grammar_of words)

-- a grammar that passes, with its sizes, where its rules begin, and its entries; and an input of its terminals
pub record Ready (k : Lookahead) (words : List ℕ) (z : Sizes) (starts entries input : List ℕ) : Type 0 where
  pub taken : admission k words ≡ Ok z
  pub free : NoLeftRecursion (grammar_of words)
  pub begins : starts ≡ rule_starts words
  pub entered : entries ≡ entries_of k (grammar_of words)
  pub tokens : Over (grammar_of words).terminals input
  pub short : length input ≤ max_tokens

-- and a memo table that is long enough
pub record PassedGiven (k : Lookahead) (words : List ℕ) (z : Sizes) (starts entries input memo : List ℕ) : Type 0 where
  pub ready : Ready k words z starts entries input
  pub room : max_memo_entries ≤ length memo

-- the same in a memo table of just its entries
pub record DescendGiven (k : Lookahead) (words : List ℕ) (z : Sizes) (starts entries input memo : List ℕ) : Type 0 where
  pub ready : Ready k words z starts entries input
  pub size : length memo ≡ pairs (grammar_of words) input
