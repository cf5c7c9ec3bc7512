-- What the positives of a rule can begin with, and the nonterminals that one left-reaches, as numbers.
use Rattle.std.specs.Prelude.{List, map, ℕ}
use Rattle.grammar.specs.Syntax.{Rule, Grammar}
use Rattle.lookahead.specs.declared.Lookahead.{Lookahead}
use Rattle.lookahead.specs.Lookaheads.{tokens}
use Rattle.lookahead.specs.Elements.{total_weight}
use Rattle.base.specs.FiniteSets.{member}
use Rattle.base.specs.Strings.{same_string}
use Rattle.semantics.specs.Claims.{meeting}
use Rattle.semantics.specs.LeftRecursion.{left_reaches}
use Rattle.families.specs.Sets.{set_number}

-- what the positives of a rule can all begin with, as a number
unfoldable pub meet_number : Lookahead → Grammar → Rule → ℕ
meet_number k G r = set_number k (member same_string (meeting G (tokens k) r))

abbrev pub meet_numbers : Lookahead → Grammar → List ℕ
meet_numbers k G = map (meet_number k G) G.rules

-- the nonterminals that A left-reaches, B weighing 2^B
unfoldable pub reach_number : Grammar → ℕ → ℕ
reach_number G A = total_weight G.nonterminals (left_reaches G A)
