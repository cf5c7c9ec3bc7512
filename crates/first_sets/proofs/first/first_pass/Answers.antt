-- The loop keeps `Turns`: the rules before have had their turn; and `Meeting`: what they give is kept, while no set has grown.
use mathlib.Core.Path.{refl}
use Rattle.families.proofs.HeadPasses.{its_turn, its_words, visit, visits_end}
use Rattle.families.proofs.FirstPasses.{rule_gives, rule_larger, rule_given}
use Rattle.families.proofs.FirstMeets.{meeting_next, meeting_end}
use Rattle.first_sets.proofs.first.first_pass.Goals as goal

pub loop-passed-preserved : goal.loop-passed-preserved
loop-passed-preserved c =
    let given = c.requires.0 in
    let forward = c.args.forward in
    let turns = c.loop-passed.invariant.0 in
    let rule = its_words given forward c.loop-passed-test.true c.turn-rule.ensures refl in
    let positives = c.requires.1 _ (its_turn given forward c.loop-passed-test.true c.turn-rule.ensures) in
    let meet = rule_given rule positives _ _ _ (rw c.from-end.ensures at c.rule_first-meet.ensures) in (
      visit given (rule_gives _ _) (rule_larger _ _) forward _ turns c.loop-passed-test.true c.turn-rule.ensures meet
          c.decode.ensures c.head_of-head.ensures
          c.add-grown.ensures refl,
      meeting_next given forward _ _ c.loop-passed.invariant.1 turns.same c.loop-passed-test.true c.turn-rule.ensures meet refl refl,
    )

pub returns : goal.returns
returns c =
    let given = c.requires.0 in
    let turns = c.loop-passed.invariant.0 in (
      visits_end given (rule_gives _ _) (rule_larger _ _) c.args.forward turns c.loop-passed-test.false,
      meeting_end given c.args.forward c.loop-passed.invariant.1 c.loop-passed-test.false turns.same,
    )
