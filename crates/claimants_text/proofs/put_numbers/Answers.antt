-- The loop keeps: the rules passed are put.
use mathlib.Core.Path.{ap}
use Rattle.text.proofs.Outputs.{puts_first, puts_next}
use Rattle.gaps_text_promises.specs.inner.Steps.{claimant_text, numbers_text}
use Rattle.claimants_text.proofs.put_numbers.Goals as goal

pub loop-rule-init : goal.loop-rule-init
unfolding numbers_text
loop-rule-init c = puts_first _ _

pub loop-rule-preserved : goal.loop-rule-preserved
unfolding numbers_text
loop-rule-preserved c =
    puts_next _ _ (ap (λ b. claimant_text b c.loop-rule.rule) c.claims_element-claimed.ensures) c.loop-rule.invariant c.put_claimant.ensures
