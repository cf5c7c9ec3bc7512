-- The loop keeps `Collected`: the rules before have given what is at their left.
use mathlib.Core.Path.{refl}
use mathlib.Core.Bool.{true}
use Rattle.families.specs.inner.Left.{rule_left}
use Rattle.families.proofs.HeadPasses.{pass_first, its_words}
use Rattle.families.proofs.LeftPasses.{rule_given}
use Rattle.families.proofs.OnePass.{collected_none, collected_next, collected_all}
use Rattle.first_sets.proofs.left.at_left.Goals as goal

pub loop-rule-init : goal.loop-rule-init
loop-rule-init c = collected_none _ _

pub loop-rule-preserved : goal.loop-rule-preserved
loop-rule-preserved c =
    let words = its_words (pass_first c.requires.0 c.requires.1) true c.loop-rule-test.true refl c.end_of-end.ensures in
    let left_here = rule_given words _ c.rule_left-left.ensures in
    collected_next (pass_first c.requires.0 c.requires.1) (rule_left _) c.loop-rule.invariant c.loop-rule-test.true left_here
    c.decode.ensures c.head_of-head.ensures c.add_nonterminals.ensures

pub returns : goal.returns
returns c =
    (c.loop-rule.invariant.long, collected_all (pass_first c.requires.0 c.requires.1) (rule_left _) c.loop-rule.invariant c.loop-rule-test.false)
