-- The loop keeps `Turns`: the rules before have had their turn; and `LastTurns`: what came behind the bodies of each when it last had it.
use mathlib.Core.Path.{refl, ◌∙◌}
use native.Mathlib.Omega.{arith}
use Rattle.grammar.proofs.WellRead.{well_read}
use Rattle.families.proofs.HeadPasses.{its_turn, its_words, head_below}
use Rattle.families.proofs.FollowPasses.{follow_visit, follows_end, last_asked, last_next}
use Rattle.sets.proofs.follow.follow_rules.Goals as goal

pub bounds-follows-head : goal.bounds-follows-head
bounds-follows-head c =
    omega (
      arith,
      head_below c.requires.0 c.args.forward c.loop-passed-test.true c.turn-rule.ensures
          c.decode.ensures c.head_of-head.ensures,
    )

pub follow_rule-grown-requires : goal.follow_rule-grown-requires
follow_rule-grown-requires c =
    let given = c.requires.0 in (
      its_words given c.args.forward c.loop-passed-test.true c.turn-rule.ensures c.end_of-end.ensures,
      head_below given c.args.forward c.loop-passed-test.true c.turn-rule.ensures c.decode.ensures c.head_of-head.ensures,
      c.loop-passed.invariant.0.long ∙ given.long,
      last_asked given.begins c.loop-passed.invariant.1 (its_turn given c.args.forward c.loop-passed-test.true c.turn-rule.ensures),
    )

pub loop-passed-preserved : goal.loop-passed-preserved
loop-passed-preserved c =
    let given = c.requires.0 in
    let forward = c.args.forward in
    let turn = c.follow_rule-grown.ensures in (
      follow_visit given _ _ forward _ c.loop-passed.invariant.0 c.loop-passed-test.true c.turn-rule.ensures
          c.decode.ensures c.head_of-head.ensures turn refl,
      last_next c.head_of-head.result given.begins (well_read _ _ given.read).few_rules
          (its_turn given forward c.loop-passed-test.true c.turn-rule.ensures) c.loop-passed.invariant.1 refl turn,
    )

pub returns : goal.returns
returns c =
    let inv = c.loop-passed.invariant in
    (follows_end c.requires.0 _ _ c.args.forward inv.0 c.loop-passed-test.false, inv.1)
