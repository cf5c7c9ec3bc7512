-- Unproductive nonterminals, whose FIRST sets are empty, and the lowest of them.
use Rattle.std.specs.Prelude.{not, List, ℕ}
use Rattle.std.proofs.Math.Option.{Option}
use Rattle.grammar.specs.Syntax.{Grammar}
use Rattle.base.specs.Quantifiers.{any_of, lowest}
use Rattle.base.specs.Rounds.{NumberSet}
use Rattle.base.specs.Strings.{strings}
use Rattle.semantics.specs.FirstFollow.{first, First}

-- (document 02: a name whose first set is empty)
abbrev pub Unproductive : Grammar → ℕ → ℕ → Type 0
Unproductive G k A = (x : List ℕ) → First G k A x → ⊥

-- the same as a test
unfoldable pub unproductive : Grammar → ℕ → NumberSet
unproductive G k A = not (any_of (λ x. first G k (A, x)) (strings k G.terminals))

unfoldable pub lowest_unproductive : Grammar → ℕ → Option ℕ
lowest_unproductive G k = lowest G.nonterminals (unproductive G k)
