-- The loop keeps `Keeping`: the rules before have had their heads and claims kept.
use mathlib.Core.Path.{refl}
use native.Mathlib.Omega.{arith}
use Rattle.claims.proofs.KeptClaims.{head_few, keeping_next, keeping_end}
use Rattle.claims.proofs.keep_claims.Goals as goal

pub bounds-follows-head : goal.bounds-follows-head
bounds-follows-head c =
    let g = c.requires.0 in
    head_few _ _ _ g.read _ _ g.begins c.loop-rule-test.true _ _ c.decode.ensures c.head_of-head.ensures

pub overflow_cast-heads : goal.overflow_cast-heads
overflow_cast-heads c =
    let g = c.requires.0 in
    let few = head_few _ _ _ g.read _ _ g.begins c.loop-rule-test.true _ _ c.decode.ensures c.head_of-head.ensures in
    omega (arith, few)

pub loop-rule-preserved : goal.loop-rule-preserved
loop-rule-preserved c =
    keeping_next c.requires.0 c.loop-rule-test.true c.decode.ensures c.head_of-head.ensures
    c.loop-rule.invariant c.concat.ensures.is refl refl

pub returns : goal.returns
returns c =
    keeping_end c.requires.0 c.loop-rule.invariant c.loop-rule-test.false
