-- The loop keeps the array under every closed family; the last pass shows it closed, and has kept the rules' meets by it.
use mathlib.Core.Path.{◌≡◌}
use lib.ListN.{length}
use Rattle.grammar.specs.Limits.{max_nonterminals}
use Rattle.grammar.specs.Encoding.{parse}
use Rattle.lookahead.specs.inner.Operations.{full}
use Rattle.families.specs.inner.First.{FirstNumbersClosed}
use Rattle.families.specs.inner.Rules.{ByRules}
use Rattle.families.proofs.LeastByPasses.{Below, missing}
use Rattle.first_sets.proofs.first.first_sets.Given as goal

abbrev pub invariant-loop-sizes : goal.invariant-loop-sizes
invariant-loop-sizes l =
    (length l.firsts ≡ max_nonterminals) × Below (FirstNumbersClosed l.lookahead l.sizes.terminals (parse l.words).rules) l.firsts
    × ByRules l.sizes.rules l.meets

abbrev pub decreases-loop-sizes : goal.decreases-loop-sizes
decreases-loop-sizes l = missing (full l.lookahead l.sizes.terminals) l.firsts
