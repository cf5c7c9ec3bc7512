-- Which nonterminals the refusals 8 and 13 name.
use Rattle.std.specs.Prelude.{List, ℕ, ◌<◌}
use Rattle.grammar.specs.Syntax.{Grammar}
use Rattle.lookahead.specs.declared.Lookahead.{Lookahead}
use Rattle.lookahead.specs.Lookaheads.{tokens}
use Rattle.semantics.specs.LeftRecursion.{LeftReaches}
use Rattle.semantics.specs.FirstFollow.{First}
use Rattle.semantics.specs.Productive.{Unproductive}

-- the lowest nonterminal that left-reaches itself (document 01: the place of 8)
pub record LowestRecursive (G : Grammar) (A : ℕ) : Type 0 where
  pub reaches : LeftReaches G A A
  pub lowest : (B : ℕ) → B < A → LeftReaches G B B → ⊥

-- the lowest nonterminal whose first set is empty (document 02: the place of 13)
pub record LowestUnproductive (k : Lookahead) (G : Grammar) (A : ℕ) : Type 0 where
  pub named : A < G.nonterminals
  pub unproductive : Unproductive G (tokens k) A
  pub lowest : (B : ℕ) → B < A → Unproductive G (tokens k) B → ⊥

-- each nonterminal, reachable or not, has a string in its first set (document 02: none whose first set is empty)
abbrev pub AllProductive : Lookahead → Grammar → Type 0
AllProductive k G = (A : ℕ) → A < G.nonterminals → (x : List ℕ) × First G (tokens k) A x
