-- The calls that a memo table records, over numbers and lists alone: how many there are, and the farthest place of one.
use Rattle.std.specs.Prelude.{Bool, not, List, ℕ, suc, ◌+◌, ◌*◌, ◌/◌, ◌≤◌, eqb, length, get_or}
use Rattle.grammar.specs.Codes.{uncalled_code}
use Rattle.answer.specs.declared.Answer.{Answer}
use Rattle.answer.specs.declared.Answer.TheVariants.{Rejected, Accepted}
use Rattle.answer.specs.declared.Calls.{Calls}
use Rattle.base.specs.Choice.{choose}
use Rattle.base.specs.FiniteSets.{keep, numbers_below, combine}
use Rattle.base.specs.Quantifiers.{any_below, count_below}
use Rattle.semantics.specs.ComesTo.{Call, call_at}
use Rattle.semantics.specs.Calls.{greatest_place}
use Rattle.semantics.specs.Memo.{Memo}

-- (document 01: count and far)
unfoldable pub tally_of : List Call → Calls
tally_of l = record { count = length l; farthest = greatest_place l }

-- an entry records a call
abbrev pub records : ℕ → Bool
records entry = not (eqb entry uncalled_code)

abbrev pub records_at : Memo → ℕ → Bool
records_at m i = records (get_or m i uncalled_code)

-- how many calls the first entries record
unfoldable pub recorded_below : Memo → ℕ → ℕ
recorded_below m n = count_below n (records_at m)

-- the call has an entry in the memo table for that many tokens
abbrev pub written_among : ℕ → Memo → Call → Bool
written_among tokens m x = records_at m (x.nonterminal * suc tokens + x.place)

-- the calls of the first nonterminals at every place, by nonterminal, then place (document 01: notebook order)
unfoldable pub recorded_calls : (m : Memo) (nonterminals tokens : ℕ) → List Call
recorded_calls m nonterminals tokens = keep (written_among tokens m) (combine call_at (numbers_below nonterminals) (numbers_below (suc tokens)))

-- all that it records for so many tokens: it has as many rows as there is room for
abbrev pub recorded_tally : (m : Memo) (tokens : ℕ) → Calls
recorded_tally m tokens = tally_of (recorded_calls m (length m / (tokens + 1)) tokens)

-- the verdict by the entry of the start's call, with these calls
unfoldable pub recorded_verdict : (m : Memo) (end tokens : ℕ) → Answer
recorded_verdict m end tokens = choose (eqb end tokens) (Accepted (recorded_tally m tokens)) (Rejected (recorded_tally m tokens))

-- one of the first nonterminals was called at a place
unfoldable pub called_at : (m : Memo) (nonterminals tokens place : ℕ) → Bool
called_at m nonterminals tokens place = any_below nonterminals (λ A. written_among tokens m (call_at A place))

-- as many entries as 16 bits can count
abbrev pub block_entries : ℕ
block_entries = 65535

-- rows for the first nonterminals, and one of their places
pub record RowsGiven (m : Memo) (nonterminals tokens place : ℕ) : Type 0 where
  pub room : nonterminals * (tokens + 1) ≤ length m
  pub placed : place ≤ tokens
