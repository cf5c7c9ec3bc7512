-- The loop keeps the rules gone through by rank.
use mathlib.Core.Path.{◌≡◌}
use Rattle.tabular_promises.specs.inner.Filling.{rank_by, lasts_to, befores_to}
use Rattle.rule_ranks.proofs.by_rank.Given as goal

abbrev pub invariant-loop-rule : goal.invariant-loop-rule
invariant-loop-rule l =
    (l.lasts ≡ lasts_to (rank_by l.words l.starts l.reaches) l.rule) × (l.befores ≡ befores_to (rank_by l.words l.starts l.reaches) l.rule)
