-- The loop keeps: the rules passed are put.
use Rattle.claims.specs.inner.Claims.{claimant}
use Rattle.text.specs.inner.Outputs.{Puts}
use Rattle.gaps_text_promises.specs.inner.Steps.{numbers_text}
use Rattle.claimants_text.proofs.put_numbers.Given as goal

abbrev pub invariant-loop-rule : goal.invariant-loop-rule
invariant-loop-rule l = Puts (numbers_text l.rule (claimant l.heads l.sets l.nonterminal l.element)) l.initial.output l.output
