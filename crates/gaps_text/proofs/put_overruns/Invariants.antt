-- The loop keeps: the lines of the nonterminals passed are put.
use Rattle.text.specs.inner.Outputs.{Puts}
use Rattle.gaps_text_promises.specs.inner.Steps.{overruns_text, overruns_in}
use Rattle.gaps_text.proofs.put_overruns.Given as goal

abbrev pub invariant-loop-nonterminal : goal.invariant-loop-nonterminal
invariant-loop-nonterminal l = Puts (overruns_text l.nonterminal (overruns_in l.overruns)) l.initial.output l.output
