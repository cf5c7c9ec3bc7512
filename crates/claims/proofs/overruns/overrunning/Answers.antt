-- The loop keeps `Telling`: what the rules from the index on tell is reported.
use Rattle.claims.proofs.OverrunRules.{telling_start, telling_turn}
use Rattle.claims.proofs.overruns.overrunning.Goals as goal

pub loop-rule-init : goal.loop-rule-init
loop-rule-init c = telling_start c.requires _ _

pub loop-rule-preserved : goal.loop-rule-preserved
loop-rule-preserved c =
    telling_turn c.requires c.loop-rule-test.true c.loop-rule.auto.rule c.loop-rule.invariant c.decode.ensures c.begins_negative-alone.ensures
    (rw c.from-head.ensures at c.told.ensures) (rw c.from-head.ensures)
