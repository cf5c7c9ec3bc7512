-- The loop keeps what the words say from the index on equal to what they said at the start.
use mathlib.Core.Path.{◌≡◌}
use Prim.Native.Nat.{◌+◌}
use lib.ListN.{drop}
use Rattle.grammar.specs.Reading.{scan}
use Rattle.reader.proofs.read_rules.Given as goal

abbrev pub invariant-loop-behind : goal.invariant-loop-behind
invariant-loop-behind l = scan l.progress (l.behind + 1) (drop l.behind l.words) ≡ scan l.initial.progress 1 l.words
