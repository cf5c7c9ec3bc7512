-- The sums of the clients so far are the loop's invariant; no sum wraps, since each counter is of 32 bits.
use Rattle.client_records.specs.inner.Sums.{SummedUp}
use Rattle.client_records.proofs.totals.total.Given as goal

abbrev pub invariant-loop-usage : goal.invariant-loop-usage
invariant-loop-usage l = SummedUp l.usage-items l.usage-index l.all
