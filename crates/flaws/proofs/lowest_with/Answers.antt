-- The loop has passed nonterminals without the flaw.
use mathlib.Core.Path.{sym, ◌∙◌}
use Rattle.families.specs.inner.Flaws.{flaw_in}
use Rattle.families.proofs.LowestTold.{lowest_found, lowest_absent}
use Rattle.flaws.proofs.lowest_with.Goals as goal

pub returns-then-has_flaw : goal.returns-then-has_flaw
returns-then-has_flaw c =
    lowest_found (flaw_in c.args.flaw c.args.firsts.now c.args.reaches.now) c.loop-nonterminal-test.true c.loop-nonterminal.invariant.1
    (sym c.has_flaw.ensures ∙ c.if-has_flaw.true)

pub returns : goal.returns
returns c =
    lowest_absent (flaw_in c.args.flaw c.args.firsts.now c.args.reaches.now) c.loop-nonterminal-test.false c.loop-nonterminal.invariant.1
