-- An encoded grammar: by whether its claims are found, and whether an entry clashes.
use Rattle.claims.proofs.Findings.{claims_told}
use Rattle.table.proofs.Analyzing.{headed, sizes_few, overruns_long, found_refused, found_clash, found_passed}
use Rattle.table.proofs.find_into.Goals as goal

pub returns-in_default : goal.returns-in_default
returns-in_default c = found_refused _ _ c.analyze-finding.ensures c.in_default.is

pub first_conflict-conflict-requires : goal.first_conflict-conflict-requires
first_conflict-conflict-requires c =
    let found = claims_told _ _ c.analyze-finding.ensures c.in-Ok.is in
    (headed found, sizes_few found, overruns_long found)

pub rows-requires : goal.rows-requires
rows-requires c =
    let found = claims_told _ _ c.analyze-finding.ensures c.in-Ok.is in
    record { headed = headed found; few_terminals = sizes_few found }

pub returns-in_default-conflict : goal.returns-in_default-conflict
returns-in_default-conflict c =
    let found = claims_told _ _ c.analyze-finding.ensures c.in-Ok.is in
    found_passed found c.first_conflict-conflict.ensures c.in_default-conflict.is c.rows.ensures

pub returns : goal.returns
returns c =
    let found = claims_told _ _ c.analyze-finding.ensures c.in-Ok.is in
    found_clash found c.first_conflict-conflict.ensures c.in-Some.is c.conflict_error.ensures
