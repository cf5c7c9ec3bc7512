-- The loop keeps what is known of the words gone through.
use mathlib.Core.Path.{◌≡◌}
use Prim.Native.Nat.{◌<◌}
use lib.Seq.{slice}
use Rattle.tabular_promises.specs.inner.Scanning.{scanned}
use Rattle.rule_scan.proofs.keeps.Given as goal

abbrev pub invariant-loop-at : goal.invariant-loop-at
invariant-loop-at l = (l.from < l.at) × (l.scan ≡ scanned l.stands l.chart l.start l.end (slice l.at l.to l.words))
