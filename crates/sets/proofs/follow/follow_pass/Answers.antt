-- The end behind the start symbol, and the rules.
use mathlib.Core.Path.{ap, ◌∙◌}
use native.Mathlib.Omega.{arith}
use lib.ListN.{length, length-set}
use Rattle.families.proofs.LeastByPasses.{added_risen}
use Rattle.families.proofs.FollowPasses.{follow_passes, last_risen}
use Rattle.sets.proofs.follow.follow_pass.Goals as goal

pub follow_rules-requires : goal.follow_rules-requires
follow_rules-requires c =
    let given = c.requires in (
      record { read = given.0.read; begins = given.0.begins; long = ap length c.add-began.ensures.list ∙ (simp length-set) ∙ given.0.long },
      last_risen given.1 (added_risen (omega (arith, given.0.long)) c.add-began.ensures),
    )

pub returns : goal.returns
returns c =
    let given = c.requires in
    let rules = c.follow_rules.ensures in (
      follow_passes _ _ _ (omega (arith, given.0.long)) (rw c.end.ensures.is at c.add-began.ensures) rules.0,
      rules.1,
    )
