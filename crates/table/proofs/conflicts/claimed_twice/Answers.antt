-- The loop has noted the rules from the one that it stands at on.
use Prim.Native.Nat.{◌-◌}
use native.Mathlib.Omega.{arith}
use Rattle.table.proofs.ClaimedTwice.{noting_start, noting_turn, noting_end}
use Rattle.table.proofs.conflicts.claimed_twice.Goals as goal

pub loop-rule-init : goal.loop-rule-init
loop-rule-init c = noting_start _ _ _ _ c.requires.1

pub loop-rule-preserved : goal.loop-rule-preserved
loop-rule-preserved c =
    let given = c.requires.0 in
    let low = given.own (c.loop-rule.rule - 1) (omega arith) in
    noting_turn _ _ c.loop-rule.invariant (omega arith) (omega arith) (omega (arith, given.allowed)) c.note.ensures

pub returns : goal.returns
returns c = noting_end _ _ c.loop-rule.invariant (omega arith)
