-- What a descent starts from: on the input of a log, in a search, and on the input of a number.
use Rattle.std.specs.Prelude.{Err, Ok, Result, ◌≡◌, List, ◌++◌, ℕ, ◌+◌, ◌-◌, ◌%◌, min, length, replicate, drop}
use Rattle.answer.specs.declared.Error.{Error}
use Rattle.event.specs.Events.{input_of}
use Rattle.grammar.specs.Codes.{uncalled_code}
use Rattle.grammar.specs.Limits.{max_tokens}
use Rattle.grammar.specs.declared.reading.Sizes.{Sizes}
use Rattle.lookahead.specs.declared.Lookahead.{Lookahead}
use Rattle.lookahead.specs.declared.Lookahead.TheVariants.{One}
use Rattle.columns.specs.Columns.{column_count}
use Rattle.inputs.specs.inner.Inputs.{input_at, input_count}
use Rattle.table.specs.inner.Analysis.{found_of}
use Rattle.table.specs.declared.Found.{Found}
use Rattle.promises.specs.inner.Lengths.{with_search}
use Rattle.recognizer_promises.specs.inner.Answers.{with_memo}
use Rattle.recognizer_promises.specs.inner.Judging.{refound}
use Rattle.descent_choices.specs.inner.Choices.{choices_of, memo_entries}
use Rattle.descent_tokens.specs.inner.Tokens.{tokens_of}
use Rattle.descent_preparation.specs.declared.Prepared.{Prepared}
use Rattle.descent_preparation.specs.declared.PreparedSearch.{PreparedSearch}

-- the sizes of a grammar that passed; else of one that has nothing
abbrev pub sizes_of : Result Sizes Error → Sizes
sizes_of (Ok z) = z
sizes_of (Err e) = record { nonterminals = 0; terminals = 0; rules = 0 }

-- the last of so many terminals, of which there are at most 256
abbrev pub last_of : ℕ → ℕ
last_of terminals = (terminals - 1) % 256

-- the rows of choices by what is found, for an input of so many tokens
abbrev pub found_choices : Lookahead → Found → ℕ → List ℕ
found_choices k f tokens =
    choices_of f.starts (sizes_of f.finding).nonterminals (column_count k (sizes_of f.finding).terminals) f.entries tokens

-- how many entries a descent then needs: none where it is refused
abbrev pub found_entries : Found → ℕ → ℕ
found_entries f tokens = memo_entries (sizes_of f.finding).nonterminals tokens

-- the input is looked at, the arrays are made, and the first entries are blank, as many as are needed, or as there are
pub record InputPrepared (k : Lookahead) (words events memo : List ℕ) (r : Prepared) (memo' : List ℕ) : Type 0 where
  pub finds : r.found ≡ refound (found_of k words) (with_memo (length memo) (found_of k words).finding (input_of events))
  pub choices : r.choices ≡ found_choices k r.found (length events)
  pub tokens : r.tokens ≡ tokens_of k (sizes_of r.found.finding).terminals (input_of events)
  pub fitting : r.entries ≡ min (found_entries r.found (length events)) (length memo)
  pub blank : memo' ≡ replicate r.entries uncalled_code ++ drop r.entries memo

-- the length is looked at, and what is the same for all its inputs is made
pub record SearchPrepared (words : List ℕ) (tokens log memo : ℕ) (r : PreparedSearch) : Type 0 where
  pub finds : r.found ≡ refound (found_of One words) (with_search log memo (found_of One words).finding tokens)
  pub choices : r.choices ≡ found_choices One r.found tokens
  pub needs : r.entries ≡ found_entries r.found tokens
  pub highest : r.last ≡ last_of (sizes_of r.found.finding).terminals
  pub counted : r.inputs ≡ input_count (sizes_of r.found.finding).terminals (min tokens max_tokens)

-- the k events of a number are written, their tokens are made for a grammar whose last terminal this is, and every entry is blank
pub record TrialPrepared (last k number : ℕ) (memo events tokens memo' : List ℕ) : Type 0 where
  pub written : events ≡ input_at (last + 1) k number
  pub made : tokens ≡ tokens_of One (last + 1) (input_of events)
  pub blank : memo' ≡ replicate (length memo) uncalled_code
