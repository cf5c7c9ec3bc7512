-- An encoded grammar: by whether it is read without a fault.
use mathlib.Core.Path.{◌∙◌}
use Rattle.families.proofs.Findings.{firsts_faulty}
use Rattle.first_sets.proofs.analyze.Goals as goal

pub returns-in-Err : goal.returns-in-Err
returns-in-Err c = c.refused.ensures ∙ firsts_faulty _ _ c.admit.ensures c.in-Err.is
