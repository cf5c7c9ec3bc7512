-- The clients' records, what one answer makes of them, and when an allowance is used up.
use Rattle.std.specs.Prelude.{◌≡◌, Bool, ◌&&◌, List, ℕ, zero, suc, ◌+◌, ◌≤◌, ◌<◌, leb, ltb, get_or, set, replicate}
use Rattle.answer.specs.declared.Answer.{Answer}
use Rattle.base.specs.Choice.{choose}
use Rattle.usage.specs.declared.Usage.{Usage}
use Rattle.usage.specs.Counters.{unused}
use Rattle.usage.specs.Histories.{counted_answer}

-- how many there are; they are numbered from 0 (document 02: boxes)
abbrev pub clients : ℕ
clients = 8

-- no client has called yet
abbrev pub nobody : List Usage
nobody = replicate clients unused

-- the record of a client
abbrev pub usage_of_client : List Usage → ℕ → Usage
usage_of_client us k = get_or us k unused

-- what the descents for a client have called in all
abbrev pub called_by : List Usage → ℕ → ℕ
called_by us k = (usage_of_client us k).called

-- the sum of a number for each client below a bound
unfoldable pub sum_below : ℕ → (ℕ → ℕ) → ℕ
sum_below zero f = 0
sum_below (suc n) f = sum_below n f + f n

-- the records after an answer to a client: counted in its own, and nowhere if the number is no client's
unfoldable pub charged : ℕ → Answer → List Usage → List Usage
charged client x us = choose (ltb client clients) (set us client (counted_answer (usage_of_client us client) x)) us

-- the same told of each record: the answer, a refusal too, is counted in the client's own, and the others' stay
pub record Charges (client : ℕ) (x : Answer) (us vs : List Usage) : Type 0 where
  pub whole : vs ≡ charged client x us
  pub own : client < clients → usage_of_client vs client ≡ counted_answer (usage_of_client us client) x
  pub others : (k : ℕ) → (client ≡ k → ⊥) → usage_of_client vs k ≡ usage_of_client us k

-- the client's own number has reached its share, and that of all the limit
abbrev pub exhausted : ℕ → ℕ → ℕ → ℕ → Bool
exhausted own share all limit = leb share own && leb limit all

-- the same of any number for each client, such as what their descents have called
abbrev pub UsedUp : ℕ → ℕ → ℕ → (ℕ → ℕ) → Type 0
UsedUp client share limit f = (client < clients) × (share ≤ f client) × (limit ≤ sum_below clients f)
