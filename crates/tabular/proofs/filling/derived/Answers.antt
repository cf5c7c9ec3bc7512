-- The loop keeps `AskingNext`: of the rules from number `rule` on, those of the rank have been asked.
use native.Mathlib.Omega.{arith}
use Rattle.grammar.proofs.WellRead.{well_read}
use Rattle.tabular_promises.proofs.RuleRanks.{rules_start, rules_more, rules_end, asked_right}
use Rattle.tabular.proofs.filling.derived.Goals as goal

pub loop-rule-init : goal.loop-rule-init
loop-rule-init c = rw c.empty-found.ensures.is (rules_start c.requires.rules c.requires.ranked c.requires.low)

pub offset_bounds-befores-asked : goal.offset_bounds-befores-asked
offset_bounds-befores-asked c =
    omega (arith, c.loop-rule-test.true, c.loop-rule.invariant.asking.high, (well_read _ _ c.requires.rules.read).few_rules)

pub bounds-befores-asked : goal.bounds-befores-asked
bounds-befores-asked c =
    omega (arith, c.loop-rule-test.true, c.loop-rule.invariant.asking.high, (well_read _ _ c.requires.rules.read).few_rules)

pub loop-rule-preserved : goal.loop-rule-preserved
loop-rule-preserved c =
    let test = c.loop-rule-test.true in
    rules_more c.requires.rules c.requires.ranked c.loop-rule.invariant test
    (asked_right record { rules = c.requires.rules; numbered = omega (arith, test, c.loop-rule.invariant.asking.high); span = c.requires.span }
    c.args.stands.now c.args.chart.now c.loop-rule.found.bits c.ask-found.ensures)

pub returns : goal.returns
returns c = rules_end c.requires.rules c.loop-rule.invariant c.loop-rule-test.false
