-- The sums of the clients so far are the loop's invariant; no sum wraps, since each counter is of 32 bits.
use mathlib.Core.Path.{◌≡◌}
use borrow.Author.Rules.{rules}
use native.Mathlib.Omega.{arith}
use Rattle.client_records.specs.Sums.{totals_of}
use Rattle.client_records.proofs.Sums.{nothing_summed, one_more}
use Rattle.client_records.proofs.totals.total.Goals as goal

pub loop-usage-init : goal.loop-usage-init
loop-usage-init c = let e : c.default-all.result ≡ totals_of 0 0 0 0 = search rules in rw e (nothing_summed c.args.usages)

pub loop-usage-preserved : goal.loop-usage-preserved
loop-usage-preserved c = one_more c.loop-usage.invariant (omega arith) c.plus-all.ensures
