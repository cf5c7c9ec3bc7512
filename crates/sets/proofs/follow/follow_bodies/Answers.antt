-- The loop keeps `FollowWalk`: the words from `at` on have been gone through.
use mathlib.Core.Path.{refl}
use Rattle.families.proofs.FollowPasses.{behind_body, follow_start, word_here, follow_turn}
use Rattle.sets.proofs.follow.follow_bodies.Goals as goal

pub loop-at-init : goal.loop-at-init
loop-at-init c =
    follow_start c.requires.1 c.args.lookahead _ _ _ (behind_body c.args.lookahead c.end.ensures c.concat-behind.ensures)
    c.requires.0

pub add_behind-grown-requires : goal.add_behind-grown-requires
add_behind-grown-requires c =
    word_here c.requires.1 _ c.loop-at.invariant c.loop-at-test.true c.decode-word.ensures

pub loop-at-preserved : goal.loop-at-preserved
loop-at-preserved c =
    follow_turn c.requires.1 _ c.loop-at.invariant c.loop-at-test.true c.decode-word.ensures _ c.requires.2
    c.add_behind-grown.ensures refl (behind_body c.args.lookahead c.end.ensures c.concat-behind.ensures)
    c.args.firsts.now refl c.tail_before-tail.ensures
