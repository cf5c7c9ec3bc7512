-- An encoded grammar: by whether its families are found.
use Rattle.families.proofs.ByRules.{by_rules_zeros}
use Rattle.families.proofs.Findings.{families_told}
use Rattle.claims.proofs.Findings.{given, heads_given, refused_claims, all_claims}
use Rattle.claims.proofs.analyze.Goals as goal

pub keep_claims-requires : goal.keep_claims-requires
keep_claims-requires c =
    let found = families_told _ _ c.analyze-families.ensures c.in-Ok.is in
    (given found, by_rules_zeros _, by_rules_zeros _)

pub overrunning-requires : goal.overrunning-requires
overrunning-requires c =
    heads_given (families_told _ _ c.analyze-families.ensures c.in-Ok.is) c.keep_claims.ensures

pub returns-in-Ok : goal.returns-in-Ok
returns-in-Ok c =
    let found = families_told _ _ c.analyze-families.ensures c.in-Ok.is in
    all_claims found c.keep_claims.ensures c.overrunning.ensures

pub returns-in_default : goal.returns-in_default
returns-in_default c =
    refused_claims _ _ c.analyze-families.ensures c.in_default.is
