-- The totals while the clients are summed up, one by one.
use Rattle.std.specs.Prelude.{◌≡◌, List, ℕ, ◌+◌, ◌*◌, ◌≤◌}
use Rattle.usage.specs.declared.Usage.{Usage}
use Rattle.usage.specs.Counters.{counter_limit}
use Rattle.client_records.specs.declared.totals.Totals.{Totals}
use Rattle.client_records.specs.Usages.{clients}
use Rattle.client_records.specs.Sums.{totals_of, summed_below, TotalsWithin}

-- the sums of seven clients
abbrev pub TotalsSmall : Totals → Type 0
TotalsSmall t = TotalsWithin (7 * counter_limit) t

-- one client's counters added
pub record AddsUsage (t : Totals) (u : Usage) (r : Totals) : Type 0 where
  pub sums : r ≡ totals_of (t.calls + u.calls) (t.refusals + u.refusals) (t.acceptances + u.acceptances) (t.called + u.called)
  pub within : (n : ℕ) → TotalsWithin n t → TotalsWithin (n + counter_limit) r

-- a loop over the clients: the sums so far
pub record SummedUp (us : List Usage) (n : ℕ) (t : Totals) : Type 0 where
  pub few : n ≤ clients
  pub sums : t ≡ summed_below n us
  pub within : TotalsWithin (n * counter_limit) t
