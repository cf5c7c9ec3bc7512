-- The loop keeps: the lines of the nonterminals passed are put.
use mathlib.Core.Path.{refl}
use Rattle.text.proofs.Outputs.{puts_first, puts_next}
use Rattle.sheet_text.proofs.put_nonterminals.Goals as goal

pub loop-nonterminal-init : goal.loop-nonterminal-init
loop-nonterminal-init c = puts_first _ _

pub loop-nonterminal-preserved : goal.loop-nonterminal-preserved
loop-nonterminal-preserved c = puts_next _ _ refl c.loop-nonterminal.invariant c.put_nonterminal.ensures
