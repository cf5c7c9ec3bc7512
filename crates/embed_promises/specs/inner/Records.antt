-- The row of the clients' records while it is written, and when they are handed back.
use Rattle.std.specs.Prelude.{◌≡◌, List, ℕ, ◌≤◌, ◌<◌, length}
use Rattle.answer.specs.Numbers.{numbers}
use Rattle.usage.specs.declared.Usage.{Usage}
use Rattle.client_records.specs.declared.Served.{Served}
use Rattle.client_records.specs.Usages.{clients, usage_of_client}
use Rattle.embed_promises.specs.Packing.{packed}
use Rattle.embed_promises.specs.inner.Packing.{cut}
use Rattle.embed_promises.specs.Records.{usage_at, usages_in}

-- a loop over the clients: those below a bound have their numbers in the row
pub record RecordsWritten (us : List Usage) (n : ℕ) (row : List ℕ) : Type 0 where
  pub few : n ≤ clients
  pub long : length row ≡ 32
  pub same : (k : ℕ) → k < n → usage_at row k ≡ usage_of_client us k

pub record HandedBack (s : Served) (r : ℕ) (row' : List ℕ) : Type 0 where
  pub packs : r ≡ packed (cut (numbers s.answer))
  pub written : usages_in row' ≡ s.usages
