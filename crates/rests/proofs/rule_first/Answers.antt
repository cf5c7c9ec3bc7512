-- The words that are left, gone through from their end, give what all words do.
use mathlib.Core.Path.{ap}
use Rattle.families.specs.inner.First.{inside_word}
use Rattle.families.specs.inner.Least.{lookup}
use Rattle.families.proofs.Words.{end_turn, end_done}
use Rattle.rests.proofs.rule_first.Goals as goal

pub loop-bits-preserved : goal.loop-bits-preserved
loop-bits-preserved c =
    end_turn (inside_word c.args.lookahead (lookup c.args.firsts.now)) _ _ _ c.in-Some.ensures.steps c.decode.ensures c.inside-rest.ensures
    c.loop-bits.invariant

pub returns : goal.returns
returns c =
    ap (λ r. r.meet.bits) (end_done (inside_word c.args.lookahead (lookup c.args.firsts.now)) _ c.in-None.ensures.steps.0 c.loop-bits.invariant)
