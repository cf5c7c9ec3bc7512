-- What the exported calls promise: the number is the packed answer of the library's call, its bits give the answer back, and lent memory is as that call
-- leaves it.
use Rattle.std.specs.Prelude.{◌≡◌, List, ℕ}
use Rattle.answer.specs.declared.Answer.{Answer}
use Rattle.lookahead.specs.declared.Lookahead.{Lookahead}
use Rattle.recognizer_promises.specs.Properties.{Checks, Judges}
use Rattle.recognizer_promises.specs.Costliest.{JudgesCostliest}
use Rattle.client_records.specs.declared.Served.{Served}
use Rattle.client_records.specs.declared.totals.Totals.{Totals}
use Rattle.client_records.specs.Sums.{Totalled}
use Rattle.clients_promises.specs.Properties.{JudgesFor}
use Rattle.tabular_promises.specs.Properties.{TabularJudges}
use Rattle.tree_writer_promises.specs.declared.Shown.{Shown}
use Rattle.tree_writer_promises.specs.Properties.{Shows}
use Rattle.embed_promises.specs.Packing.{Packs}
use Rattle.embed_promises.specs.Records.{usages_in, totals_row}

-- a call of the library keeps its promise of a result, and the number is the packed answer of that
pub record Exported {Result : Type 0} (answer_of : Result → Answer) (Promise : Result → Type 0) (r : ℕ) : Type 0 where
  pub result : Result
  pub promise : Promise result
  pub packs : Packs r (answer_of result)

abbrev pub CheckExported : Lookahead → (words table : List ℕ) (r : ℕ) (table' : List ℕ) → Type 0
CheckExported k words table r table' = Exported {Result = Answer} (λ a. a) (λ a. Checks k words table a table') r

abbrev pub JudgeExported : Lookahead → (words input table memo : List ℕ) (r : ℕ) (table' memo' : List ℕ) → Type 0
JudgeExported k words input table memo r table' memo' = Exported {Result = Answer} (λ a. a) (λ a. Judges k words input table memo a table' memo') r

abbrev pub CostliestExported : List ℕ → ℕ → (log table memo : List ℕ) (r : ℕ) (log' table' memo' : List ℕ) → Type 0
CostliestExported words n log table memo r log' table' memo' =
    Exported {Result = Answer} (λ a. a) (λ a. JudgesCostliest words n log table memo a log' table' memo') r

abbrev pub TabularExported : (words input spans : List ℕ) (r : ℕ) (spans' : List ℕ) → Type 0
TabularExported words input spans r spans' = Exported {Result = Answer} (λ a. a) (λ a. TabularJudges words input spans a spans') r

-- the clients' records are read from a row of the caller's and written back into it, so that the next call reads what this one handed back
pub record ServedExported (client share limit : ℕ) (words input table memo row : List ℕ) (r : ℕ) (table' memo' row' : List ℕ) : Type 0 where
  pub exported : Exported {Result = Served} (λ s. s.answer) (λ s. JudgesFor client share limit words input table memo (usages_in row) s table' memo') r
  pub written : usages_in row' ≡ exported.result.usages

-- the number of words that are written stands in a word of the caller's
abbrev pub TreeExported : (words input table memo tree : List ℕ) (r : ℕ) (table' memo' tree' : List ℕ) (written' : ℕ) → Type 0
TreeExported words input table memo tree r table' memo' tree' written' =
    Exported {Result = Shown} (λ s. s.answer) (λ s. Shows words input table memo tree s table' memo' tree' × (written' ≡ s.written)) r

-- the totals of a row's records, in a row of the caller's
pub record TotalsExported (row totals' : List ℕ) : Type 0 where
  pub totals : Totals
  pub sums : Totalled (usages_in row) totals
  pub written : totals' ≡ totals_row totals
