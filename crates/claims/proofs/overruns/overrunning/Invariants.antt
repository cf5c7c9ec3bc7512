-- The loop keeps `Telling`: what the rules from the index on tell is reported.
use Rattle.claims.proofs.OverrunRules.{Telling}
use Rattle.claims.proofs.overruns.overrunning.Given as goal

abbrev pub invariant-loop-rule : goal.invariant-loop-rule
invariant-loop-rule l = Telling l.lookahead l.words l.follows l.overruns l.rule
