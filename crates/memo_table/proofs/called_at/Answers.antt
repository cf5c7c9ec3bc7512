-- None of the nonterminals passed was called there.
use native.Mathlib.Omega.{arith}
use Rattle.memo_table.proofs.Tallying.{called_here, called_not, called_none}
use Rattle.memo_table.proofs.called_at.Goals as goal

pub loop-nonterminal-init : goal.loop-nonterminal-init
loop-nonterminal-init c = called_none _ _ _

pub returns-then-memo-nonterminal : goal.returns-then-memo-nonterminal
returns-then-memo-nonterminal c =
    called_here _ _ (omega arith) c.requires c.if-memo-nonterminal.true

pub loop-nonterminal-preserved : goal.loop-nonterminal-preserved
loop-nonterminal-preserved c =
    called_not _ _ (omega arith) c.requires c.if-memo-nonterminal.false c.loop-nonterminal.invariant
