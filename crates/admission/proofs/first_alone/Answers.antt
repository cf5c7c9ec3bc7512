-- The loop keeps what the search finds from the index on.
use mathlib.Core.Path.{sym, ◌∙◌}
use Rattle.admission.proofs.WithoutPositives.{alone_here, alone_next, alone_none}
use Rattle.admission.proofs.first_alone.Goals as goal

pub returns-then-stands_alone : goal.returns-then-stands_alone
returns-then-stands_alone c =
    sym (alone_here c.args.words.now c.loop-at.opened c.loop-at.at c.loop-at-test.true c.decode-word.ensures
    (sym c.stands_alone.ensures ∙ c.if-stands_alone.true)) ∙ c.loop-at.invariant

pub loop-at-preserved : goal.loop-at-preserved
loop-at-preserved c =
    sym (alone_next c.args.words.now c.loop-at.opened c.loop-at.at c.loop-at-test.true c.decode-word.ensures
    (sym c.stands_alone.ensures ∙ c.if-stands_alone.false) c.begins_rule-opened.ensures) ∙ c.loop-at.invariant

pub returns : goal.returns
returns c =
    sym (alone_none c.args.words.now c.loop-at.opened c.loop-at.at c.loop-at-test.false) ∙ c.loop-at.invariant
