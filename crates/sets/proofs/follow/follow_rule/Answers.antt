-- Nothing new follows the head; else the negatives are gone through, and then the positives.
use mathlib.Core.Path.{refl, ◌∙◌}
use Rattle.families.proofs.FollowPasses.{none_asked, follow_both}
use Rattle.families.proofs.Signs.{negatives_inside, negative_words, positive_words}
use Rattle.sets.proofs.follow.follow_rule.Goals as goal

pub follow_bodies-by_negatives-requires : goal.follow_bodies-by_negatives-requires
follow_bodies-by_negatives-requires c =
    let rule = c.requires.0 in
    let negatives = negatives_inside rule c.negatives_in.ensures in
    (none_asked rule negatives _ _ _ _, negative_words rule negatives, c.requires.2)

pub follow_bodies-by_positives-requires : goal.follow_bodies-by_positives-requires
follow_bodies-by_positives-requires c =
    let rule = c.requires.0 in
    let turn = c.follow_bodies-by_negatives.ensures in
    (turn.asked, positive_words rule (negatives_inside rule c.negatives_in.ensures), turn.passing.long ∙ c.requires.2)

pub returns : goal.returns
returns c =
    let rule = c.requires.0 in
    let negatives = negatives_inside rule c.negatives_in.ensures in
    follow_both rule negatives _ _ c.follow_bodies-by_negatives.ensures c.follow_bodies-by_positives.ensures refl
