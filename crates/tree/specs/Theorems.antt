-- What is proved of the tree that an accepted input is given, and of the word of a vertex.
use Rattle.std.specs.Prelude.{◌≡◌, true, ℕ, ◌/◌, ◌%◌, ◌^◌, ◌≤◌, length}
use mathlib.Core.List.{List, Memᴰ}
use Rattle.std.proofs.Math.Option.{some}
use Rattle.std.proofs.Math.ListN.{get_elem?}
use Rattle.grammar.specs.Syntax.{Rule, Grammar}
use Rattle.semantics.specs.Valuations.{Valuation}
use Rattle.semantics.specs.Choices.{Choice, table_choice}
use Rattle.semantics.specs.Descent.{End, descend}
use Rattle.semantics.specs.ComesTo.{Call}
use Rattle.semantics.specs.Calls.{Called, call_count}
use Rattle.base.specs.FiniteSets.{Distinct}
use Rattle.tree.specs.ParseTrees.{Vertex, ParseTree}
use Rattle.tree.specs.Writing.{tree_calls, tree_of, vertex_word, InTree}

-- The written vertices are those of just the calls of the tree, each once; each of them is a call that the descent makes and that ends
pub record Written (G : Grammar) (choice : Choice) (w : List ℕ) : Type 0 where
  pub sound : (x : Call) → Memᴰ x (tree_calls G choice w) → InTree G choice w x
  pub full : (x : Call) → InTree G choice w x → Memᴰ x (tree_calls G choice w)
  pub called : (x : Call) → InTree G choice w x → Called G choice w x
  pub ends : (x : Call) → InTree G choice w x → (j : ℕ) × (descend G choice w x.nonterminal x.place ≡ End j)
  pub distinct : Distinct (tree_of G choice w).vertices
  pub few : length (tree_of G choice w).vertices ≤ call_count G choice w

-- The solution gives each vertex's span to the head of its rule
pub record Derived (G : Grammar) (v : Valuation) (x : Vertex) : Type 0 where
  pub rule : Rule
  pub labelled : get_elem? G.rules x.rule ≡ some rule
  pub derived : v rule.head x.start x.end ≡ true

pub record TreeRight (G : Grammar) (k : ℕ) (w : List ℕ) (v : Valuation) : Type 0 where
  pub parse : ParseTree G w v (tree_of G (table_choice G k w) w)
  pub derived : (x : Vertex) → Memᴰ x (tree_of G (table_choice G k w) w).vertices → Derived G v x
  pub written : Written G (table_choice G k w) w

-- A word tells its vertex
pub record Told (x : Vertex) : Type 0 where
  pub kind : vertex_word x / 2 ^ 28 ≡ 8
  pub between : vertex_word x / 2 ^ 25 % 2 ^ 3 ≡ 0
  pub end : vertex_word x / 2 ^ 16 % 2 ^ 9 ≡ x.end
  pub start : vertex_word x / 2 ^ 7 % 2 ^ 9 ≡ x.start
  pub rule : vertex_word x % 2 ^ 7 ≡ x.rule
