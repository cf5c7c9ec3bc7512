-- The loop keeps `Noting`: the numbers before `rules` hold the begins found so far.
use Rattle.grammar.proofs.Starts.{Noting}
use Rattle.rule_starts.proofs.rule_starts.Given as goal

abbrev pub invariant-loop-at : goal.invariant-loop-at
invariant-loop-at l = Noting l.words l.starts l.rules l.at
