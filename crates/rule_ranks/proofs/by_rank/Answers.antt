-- The loop keeps the rules gone through by rank.
use Rattle.tabular_promises.proofs.RuleRanks.{lasts_start, befores_start, lasts_more, befores_more}
use Rattle.rule_ranks.proofs.by_rank.Goals as goal

pub loop-rule-init : goal.loop-rule-init
loop-rule-init c = (lasts_start _, befores_start _)

pub loop-rule-preserved : goal.loop-rule-preserved
loop-rule-preserved c =
    let loop = c.loop-rule in
    let rank = c.rank_at-rank.ensures in
    (lasts_more _ loop.rule loop.invariant.0 rank, befores_more _ loop.rule loop.invariant.0 loop.invariant.1 rank)
