-- The words that are left, gone through from their end, give what all words do.
use mathlib.Core.Path.{ap}
use Rattle.families.specs.inner.Least.{at as family}
use Rattle.families.specs.inner.Left.{empty_in, inside_left}
use Rattle.families.proofs.Words.{end_turn, end_done}
use Rattle.lefts.proofs.rule_left.Goals as goal

pub loop-bits-preserved : goal.loop-bits-preserved
loop-bits-preserved c =
    end_turn (inside_left (empty_in c.args.lookahead (family c.args.firsts.now))) _ _ _ c.in-Some.ensures.steps c.decode.ensures c.inside_left-left.ensures
    c.loop-bits.invariant

pub returns : goal.returns
returns c =
    ap (λ l. l.rule.bits) (end_done (inside_left (empty_in c.args.lookahead (family c.args.firsts.now))) _ c.in-None.ensures.steps.0 c.loop-bits.invariant)
