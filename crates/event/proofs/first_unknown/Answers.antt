-- The loop keeps what the search finds from the index on.
use mathlib.Core.Path.{◌∙◌}
use native.Mathlib.Omega.{arith}
use Rattle.event.proofs.Known.{unknown_next, unknown_none}
use Rattle.event.proofs.first_unknown.Goals as goal

pub loop-at-preserved : goal.loop-at-preserved
loop-at-preserved c =
    unknown_next c.args.terminals c.args.events.now c.loop-at.at c.loop-at-test.true
    (omega (arith, c.terminal_of-terminal.ensures)) ∙ c.loop-at.invariant

pub returns : goal.returns
returns c =
    unknown_none c.args.terminals c.args.events.now c.loop-at.at c.loop-at-test.false ∙ c.loop-at.invariant
