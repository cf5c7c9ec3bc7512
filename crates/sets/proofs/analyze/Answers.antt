-- By whether the grammar is refused for its first sets.
use Rattle.families.proofs.Findings.{firsts_told, firsts_unfollowed, families_flawed, families_found}
use Rattle.sets.proofs.analyze.Goals as goal

pub follow_sets-requires : goal.follow_sets-requires
follow_sets-requires c =
    let told = firsts_told _ _ c.analyze.ensures c.in-Ok.is in
    (told.read, told.begins, told.first, firsts_unfollowed _ _ c.analyze.ensures)

pub returns-in-Ok : goal.returns-in-Ok
returns-in-Ok c = families_found _ _ c.analyze.ensures c.in-Ok.is c.follow_sets.ensures

pub returns-in_default : goal.returns-in_default
returns-in_default c = families_flawed _ _ c.analyze.ensures c.in_default.is
