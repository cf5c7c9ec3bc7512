-- What is answered before a log is judged, and what is handed back with an answer.
use Rattle.std.specs.Prelude.{List, ℕ, leb, Result, Ok, Err}
use Rattle.answer.specs.declared.Error.{Error}
use Rattle.answer.specs.declared.Error.TheVariants.{UnknownClient, QuotaReached}
use Rattle.answer.specs.declared.Answer.{Answer}
use Rattle.base.specs.Choice.{choose}
use Rattle.usage.specs.declared.Usage.{Usage}
use Rattle.client_records.specs.declared.Served.{Served}
use Rattle.client_records.specs.Usages.{clients, called_by, sum_below, charged, exhausted}

-- a refusal of no client and of one whose allowance is used up; else its log is judged
abbrev pub allowed_by : (client share limit : ℕ) → List Usage → Result (Unit {0}) Error
allowed_by client share limit us =
    choose (leb clients client) (Err UnknownClient)
    (choose (exhausted (called_by us client) share (sum_below clients (called_by us)) limit) (Err QuotaReached) (Ok tt))

abbrev pub served_with : ℕ → Answer → List Usage → Served
served_with client x us = record { answer = x; usages = charged client x us }
