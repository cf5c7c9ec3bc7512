-- Choices of own rules.
use Rattle.std.specs.Prelude.{◌≡◌, ℕ}
use Rattle.std.proofs.Math.Option.{some}
use Rattle.std.proofs.Math.ListN.{get_elem?}
use Rattle.grammar.specs.Syntax.{Rule, Grammar}
use Rattle.semantics.specs.Choices.{Choice}

-- each rule that is chosen for a nonterminal is one of its own
abbrev pub OwnRules : Grammar → Choice → Type 0
OwnRules G choice = (A i q : ℕ) → choice A i ≡ some q → (r : Rule) × (get_elem? G.rules q ≡ some r) × (r.head ≡ A)
