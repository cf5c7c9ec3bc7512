-- The loop keeps: the lines of the nonterminals passed are put.
use mathlib.Core.Path.{refl}
use Rattle.text.proofs.Outputs.{puts_first, puts_next}
use Rattle.gaps_text_promises.specs.inner.Steps.{overruns_text}
use Rattle.gaps_text.proofs.put_overruns.Goals as goal

pub loop-nonterminal-init : goal.loop-nonterminal-init
unfolding overruns_text
loop-nonterminal-init c = puts_first _ _

pub loop-nonterminal-preserved : goal.loop-nonterminal-preserved
unfolding overruns_text
loop-nonterminal-preserved c = puts_next _ _ refl c.loop-nonterminal.invariant c.put_overrun.ensures
