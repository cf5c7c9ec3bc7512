-- The loop has passed nonterminals without the flaw.
use Prim.Native.Nat.{◌≤◌}
use Rattle.base.proofs.Quantified.{NoneBelow}
use Rattle.families.specs.inner.Flaws.{flaw_in}
use Rattle.flaws.proofs.lowest_with.Given as goal

abbrev pub invariant-loop-nonterminal : goal.invariant-loop-nonterminal
invariant-loop-nonterminal l = (l.nonterminal ≤ l.nonterminals) × NoneBelow l.nonterminal (flaw_in l.flaw l.firsts l.reaches)
