-- The loop keeps `Keeping`: the rules before have had their heads and claims kept.
use Rattle.claims.proofs.KeptClaims.{Keeping}
use Rattle.claims.proofs.keep_claims.Given as goal

abbrev pub invariant-loop-rule : goal.invariant-loop-rule
invariant-loop-rule l = Keeping l.lookahead l.words l.fn.sizes.rules l.heads l.sets l.rule
