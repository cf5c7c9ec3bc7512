-- What this crate proves, on one page. All of it is given in proofs/Theorems.
use Rattle.std.specs.Prelude.{List, ℕ, ◌^◌, ◌<◌, T}
use Rattle.grammar.specs.Syntax.{Grammar}
use Rattle.semantics.specs.Valuations.{Valuation, Solves}
use Rattle.base.specs.Strings.{Over}
use Rattle.semantics.specs.Choices.{table_choice}
use Rattle.semantics.specs.Descent.{accepts}
use Rattle.semantics.specs.Predictive.{Predictive}
use Rattle.tree.specs.ParseTrees.{Vertex}
use Rattle.tree.specs.Theorems.{TreeRight, Told}

pub record Theorems : Type 0 where
  pub tree_right : (G : Grammar) (k : ℕ) → Predictive G k → (w : List ℕ) → Over G.terminals w → (v : Valuation) → Solves G w v
      → T (accepts G (table_choice G k w) w) → TreeRight G k w v
  pub told : (x : Vertex) → x.rule < 2 ^ 7 → x.start < 2 ^ 9 → x.end < 2 ^ 9 → Told x
