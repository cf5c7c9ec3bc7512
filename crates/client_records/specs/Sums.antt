-- The totals: the sums of the clients' counters, each of which is of 32 bits, so that 64 bits hold them.
use Rattle.std.specs.Prelude.{◌≡◌, List, ℕ, ◌*◌, ◌≤◌}
use Rattle.usage.specs.declared.Usage.{Usage}
use Rattle.usage.specs.Counters.{counter_limit}
use Rattle.client_records.specs.declared.totals.Totals.{Totals}
use Rattle.client_records.specs.Usages.{clients, usage_of_client, called_by, sum_below}

abbrev pub totals_of : ℕ → ℕ → ℕ → ℕ → Totals
totals_of c r a d = record { calls = c; refusals = r; acceptances = a; called = d }

-- the sums over the clients below a bound
abbrev pub summed_below : ℕ → List Usage → Totals
summed_below n us =
    totals_of (sum_below n (λ k. (usage_of_client us k).calls))
    (sum_below n (λ k. (usage_of_client us k).refusals))
    (sum_below n (λ k. (usage_of_client us k).acceptances))
    (sum_below n (called_by us))

-- each sum is at most a number
pub record TotalsWithin (n : ℕ) (t : Totals) : Type 0 where
  pub calls : t.calls ≤ n
  pub refusals : t.refusals ≤ n
  pub acceptances : t.acceptances ≤ n
  pub called : t.called ≤ n

-- the totals are the sums over all clients, and none is greater than 34,359,738,360: no sum wraps
pub record Totalled (us : List Usage) (t : Totals) : Type 0 where
  pub sums : t ≡ summed_below clients us
  pub within : TotalsWithin (clients * counter_limit) t
