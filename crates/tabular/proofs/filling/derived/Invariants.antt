-- The loop keeps `AskingNext`: of the rules from number `rule` on, those of the rank have been asked.
use Rattle.tabular_promises.proofs.RuleRanks.{AskingNext}
use Rattle.tabular.proofs.filling.derived.Given as goal

abbrev pub invariant-loop-rule : goal.invariant-loop-rule
invariant-loop-rule l =
    AskingNext l.words l.sizes.rules l.rank l.stands l.chart l.start l.end l.found.bits l.rule

abbrev pub decreases-loop-rule : goal.decreases-loop-rule
decreases-loop-rule l = l.rule
