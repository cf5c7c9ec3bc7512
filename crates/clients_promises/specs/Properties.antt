-- What judging for a client promises, on one page: what it answers, what lent memory and the clients' records handed back hold, and whom the allowance
-- turns away.
use Rattle.std.specs.Prelude.{◌≡◌, List, [], ◌∷◌, ◌++◌, ◌↔◌, ℕ, ◌≤◌, ◌<◌, leb, length}
use Rattle.std.proofs.Math.Option.{Option}
use Rattle.answer.specs.declared.Error.{Error}
use Rattle.answer.specs.declared.Error.TheVariants.{UnknownClient, QuotaReached}
use Rattle.answer.specs.declared.Answer.TheVariants.{Refused}
use Rattle.answer.specs.Faults.{fault_if, first_fault}
use Rattle.grammar.specs.Encoding.{grammar_of}
use Rattle.lookahead.specs.declared.Lookahead.TheVariants.{One}
use Rattle.table_promises.specs.Layout.{table_words}
use Rattle.recognizer_promises.specs.Answers.{judge_fault, verdict_of}
use Rattle.promises.specs.Leaving.{lent, Leaves}
use Rattle.recognizer_promises.specs.Memory.{memo_words}
use Rattle.recognizer_promises.specs.Properties.{Judges}
use Rattle.usage.specs.declared.Usage.{Usage}
use Rattle.usage.specs.Counters.{counter_limit}
use Rattle.client_records.specs.declared.Served.{Served}
use Rattle.client_records.specs.Usages.{clients, called_by, sum_below, exhausted, UsedUp, Charges}
use Rattle.clients_promises.specs.Histories.{Reply, reply, Continues, OfTheDay, called_exactly}

-- why the call is refused, in document 02's order: no such client, then an allowance that is used up, and then as judging; `called` is what the
-- descents for each client have called before
unfoldable pub client_fault : (client share limit : ℕ) (called : ℕ → ℕ) (table memo : ℕ) (words input : List ℕ) → Option Error
client_fault client share limit called table memo words input =
    first_fault
    (fault_if (leb clients client) UnknownClient
    ∷ fault_if (exhausted (called client) share (sum_below clients called) limit) QuotaReached
    ∷ judge_fault One table memo words input
    ∷ [])

-- need not be believed: exhausted (turned_away)
pub record JudgesFor (client share limit : ℕ) (words input table memo : List ℕ) (us : List Usage) (r : Served) (table' memo' : List ℕ) : Type 0 where
  pub leaves : Leaves (client_fault client share limit (called_by us) (length table) (length memo) words input)
      (verdict_of One (grammar_of words) input) r.answer
      (lent table (table_words One (grammar_of words)) table' ∷ lent memo (memo_words One (grammar_of words) input) memo' ∷ [])
  -- of a call that is let through all that judging promises, property 3 with it, whatever line the call crosses
  pub let_through : client < clients → (UsedUp client share limit (called_by us) → ⊥) → Judges One words input table memo r.answer table' memo'
  -- 15 exactly where there is no such client; 16 exactly where its own have reached its share and those of all the limit, before the call
  pub unknown : (r.answer ≡ Refused UnknownClient) ↔ (clients ≤ client)
  pub turned_away : (r.answer ≡ Refused QuotaReached) ↔ UsedUp client share limit (called_by us)
  -- so a client under its share is never turned away, whatever the other clients' counters are
  pub under_share : called_by us client < share → r.answer ≡ Refused QuotaReached → ⊥
  -- the whole record: the answer, 16 and every other refusal too, is counted in the client's own; 15 is counted nowhere
  pub charges : Charges client r.answer us r.usages
  -- so, whichever history made the ones handed in of whichever first ones, those handed back are what it makes of them with this answer
  pub continues : (first : List Usage) (history : List Reply) → Continues first history us
      → Continues first (history ++ reply client r.answer ∷ []) r.usages
  pub of_the_day : (history : List Reply) → OfTheDay history us → OfTheDay (history ++ reply client r.answer ∷ []) r.usages
  -- that counters stop changes no decision: after any history it is the one by the exact sums, for a share and a limit of 32 bits
  pub by_exact_sums : (first : List Usage) (history : List Reply) → Continues first history us → share ≤ counter_limit → limit ≤ counter_limit
      → (r.answer ≡ Refused QuotaReached) ↔ UsedUp client share limit (called_exactly first history)
