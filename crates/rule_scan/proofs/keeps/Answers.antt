-- The loop keeps what is known of the words gone through.
use native.Mathlib.Omega.{arith}
use Rattle.tabular_promises.proofs.Scans.{scan_start, scan_more, scan_end}
use Rattle.rule_scan.proofs.keeps.Goals as goal

pub loop-at-init : goal.loop-at-init
loop-at-init c = (c.requires.0, scan_start _ _ _ _ _ _ c.requires.1 c.none_open-scan.ensures)

pub loop-at-preserved : goal.loop-at-preserved
loop-at-preserved c =
    (omega arith, scan_more _ _ _ _ _ _ c.requires.1 c.loop-at.invariant.1 (omega arith) (omega arith) c.decode-word.ensures c.onto-scan.ensures)

pub returns : goal.returns
returns c = scan_end _ _ _ _ _ _ _ c.requires.1 c.loop-at.invariant.1 c.loop-at.invariant.0 (omega arith) c.requires.0
