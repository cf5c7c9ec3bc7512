-- One, shifted to a terminal's place, is the set of that terminal alone; a number that is no terminal's gives 0.
use native.Mathlib.Omega.{arith}
use Rattle.lookahead_sets.proofs.SingleElements.{terminal_none, terminal_some}
use Rattle.lookahead_sets.proofs.LookaheadSet.terminal.Goals as goal

pub returns-then-l-alphabet : goal.returns-then-l-alphabet
returns-then-l-alphabet c =
    terminal_some c.args.lookahead (omega (arith, c.if-l-alphabet.true, c.alphabet.ensures)) c.single.ensures

pub returns-else-l-alphabet : goal.returns-else-l-alphabet
returns-else-l-alphabet c =
    terminal_none c.args.lookahead (omega (arith, c.if-l-alphabet.false, c.alphabet.ensures)) c.empty.ensures
