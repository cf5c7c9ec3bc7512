-- What is put follows from what is found of the rules.
use Rattle.gaps_text_promises.proofs.Same.{gaps_put}
use Rattle.report.proofs.put_claimed.Goals as goal

pub returns : goal.returns
returns c =
    gaps_put _ c.analyze-finding.ensures c.put_gaps.ensures
