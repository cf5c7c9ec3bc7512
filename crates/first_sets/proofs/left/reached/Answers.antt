-- What is at the left of the rules leads to all that is left-reached.
use Rattle.families.proofs.LeftTie.{reach_listed}
use Rattle.first_sets.proofs.left.reached.Goals as goal

pub returns : goal.returns
returns c =
    reach_listed _ _ c.requires.0 c.requires.2 c.at_left-sets.ensures.0 c.at_left-sets.ensures.1 c.closed.ensures
