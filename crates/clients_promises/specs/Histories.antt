-- What a history of answers to clients makes of their records: for each client what its own answers make of its own.
use Rattle.std.specs.Prelude.{◌≡◌, List, [], ◌∷◌, ℕ, ◌+◌, ◌<◌, eqb}
use Rattle.answer.specs.declared.Answer.{Answer}
use Rattle.base.specs.Choice.{choose}
use Rattle.usage.specs.declared.Usage.{Usage}
use Rattle.usage.specs.Counters.{called_of}
use Rattle.usage.specs.Histories.{record_of, total_of, summed, spent, UsageInRange}
use Rattle.client_records.specs.Usages.{clients, usage_of_client, called_by}

-- an answer, and whom it was given
pub record Reply : Type 0 where
  pub client : ℕ
  pub answer : Answer

abbrev pub reply : ℕ → Answer → Reply
reply k x = record { client = k; answer = x }

-- the answers of a history that one client was given, in their order
unfoldable pub answers_to : ℕ → List Reply → List Answer
answers_to k [] = []
answers_to k (s ∷ l) = choose (eqb s.client k) (s.answer ∷ answers_to k l) (answers_to k l)

-- the records are what a history makes of earlier ones
pub record Continues (first : List Usage) (history : List Reply) (us : List Usage) : Type 0 where
  -- each client's by its own answers alone, counted one by one
  pub one_by_one : (k : ℕ) → k < clients → usage_of_client us k ≡ record_of (usage_of_client first k) (answers_to k history)
  -- which are the exact sums over its own answers, cut at the end, where the earlier ones are of 32 bits as every one that is handed in is
  pub by_sums : (k : ℕ) → k < clients → UsageInRange (usage_of_client first k) → usage_of_client us k ≡ summed (usage_of_client first k) (answers_to k history)

-- from empty records: each client's counters are its own answers' exact sums, cut
abbrev pub OfTheDay : List Reply → List Usage → Type 0
OfTheDay history us = (k : ℕ) → k < clients → usage_of_client us k ≡ spent (answers_to k history)

-- what the descents for a client have called in all, as a number that does not stop
abbrev pub called_exactly : List Usage → List Reply → ℕ → ℕ
called_exactly first history k = called_by first k + total_of called_of (answers_to k history)
