-- The loop keeps the count of the rules passed.
use mathlib.Core.Path.{◌≡◌}
use Rattle.base.specs.Quantifiers.{count_below}
use Rattle.claims.specs.inner.Claims.{claimant}
use Rattle.claimants_text.proofs.count_claimants.Given as goal

abbrev pub invariant-loop-rule : goal.invariant-loop-rule
invariant-loop-rule l = l.n ≡ count_below l.rule (claimant l.heads l.sets l.nonterminal l.element)
