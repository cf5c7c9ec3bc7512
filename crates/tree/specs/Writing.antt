-- The tree that the descent finds, as a pure function: which vertices are written, in which order, and the words that they are written as.
use mathlib.Core.List.{List, [], ◌∷◌, ◌++◌, map, flat_map, Memᴰ}
use Rattle.std.proofs.Math.Option.{Option, none, some}
use Rattle.std.specs.Prelude.{ℕ, zero, suc, ◌+◌, ◌*◌, ◌-◌, ◌^◌}
use Rattle.std.proofs.Math.ListN.{get_elem?}
use Rattle.word.specs.declared.Symbol.TheVariants.{Terminal, Nonterminal}
use Rattle.grammar.specs.Syntax.{Body, Rule, Grammar}
use Rattle.base.specs.Choice.{choose}
use Rattle.base.specs.FiniteSets.{member}
use Rattle.semantics.specs.Valuations.{pairs}
use Rattle.semantics.specs.Choices.{Choice}
use Rattle.semantics.specs.Descent.{Outcome, Failed, End, Outcomes, select, descend, accepts}
use Rattle.semantics.specs.ComesTo.{Call, call_at, body_comes_to}
use Rattle.semantics.specs.Calls.{same_call}
use Rattle.tree.specs.ParseTrees.{Vertex, vertex, Node, Leaf, Inner, leaves, Tree}

abbrev pub rule_number_of : Option ℕ → ℕ
rule_number_of none = 0
rule_number_of (some q) = q

abbrev pub end_of : Outcome → ℕ
end_of Failed = 0
end_of (End e) = e

-- the vertex of a call that ends: the rule that the table chooses, and where the call begins and ends
unfoldable pub vertex_at : Grammar → Choice → List ℕ → Call → Vertex
vertex_at G choice w x =
    vertex (rule_number_of (choice x.nonterminal x.place)) x.place (end_of (descend G choice w x.nonterminal x.place))

-- the descendants for the symbols of a body from i on, where `at` gives each call its vertex
unfoldable pub body_nodes : (Call → Vertex) → Body → ℕ → List Node
body_nodes at [] i = []
body_nodes at (Terminal a ∷ b) i = Leaf i ∷ body_nodes at b (suc i)
body_nodes at (Nonterminal A ∷ b) i = Inner (at (call_at A i)) ∷ body_nodes at b (at (call_at A i)).end

-- for a rule without positive conjuncts the tokens of the span
unfoldable pub conjunct_nodes : (Call → Vertex) → ℕ → ℕ → List Body → List (List Node)
conjunct_nodes at i j [] = leaves i (j - i) ∷ []
conjunct_nodes at i j (b ∷ ps) = map (λ b'. body_nodes at b' i) (b ∷ ps)

unfoldable pub rule_nodes : (Call → Vertex) → ℕ → ℕ → Option Rule → List (List Node)
rule_nodes at i j none = []
rule_nodes at i j (some r) = conjunct_nodes at i j r.positives

-- the direct descendants of a vertex
unfoldable pub descendants_of : Grammar → Choice → List ℕ → Vertex → List (List Node)
descendants_of G choice w x = rule_nodes (vertex_at G choice w) x.start x.end (get_elem? G.rules x.rule)

-- the calls of a rule's positive conjuncts, in order
unfoldable pub rule_calls : Outcomes → List ℕ → Option Rule → ℕ → List Call
rule_calls c w none i = []
rule_calls c w (some r) i = flat_map (λ b. body_comes_to c w b i) r.positives

-- the calls whose vertices are direct descendants of a call's vertex
unfoldable pub below : Grammar → Choice → List ℕ → Call → List Call
below G choice w x = rule_calls (descend G choice w) w (select G (choice x.nonterminal x.place)) x.place

-- one after the other, each from what the one before it left
unfoldable pub each : (Call → List Call → List Call) → List Call → List Call → List Call
each f [] l = l
each f (x ∷ xs) l = each f xs (f x l)

-- x and what is below it, at most n deep, root first and in order, behind what is written already; what is met again is not written again
unfoldable pub visit : (Call → List Call) → ℕ → Call → List Call → List Call
visit under zero x l = l
visit under (suc n) x l = choose (member same_call l x) l (each (visit under n) (under x) (l ++ (x ∷ [])))

-- the calls whose vertices are written, in order: without left recursion none lies deeper than there are pairs
unfoldable pub tree_calls : Grammar → Choice → List ℕ → List Call
tree_calls G choice w = visit (below G choice w) (pairs G w) (call_at 0 0) []

unfoldable pub tree_of : Grammar → Choice → List ℕ → Tree
tree_of G choice w = record { vertices = map (vertex_at G choice w) (tree_calls G choice w); descendants = descendants_of G choice w }

-- kind 8 in the top four bits; from bit 0 the rule (7 bits), the start (9) and the end (9), the bits between zero
unfoldable pub vertex_word : Vertex → ℕ
vertex_word x = 8 * 2 ^ 28 + x.end * 2 ^ 16 + x.start * 2 ^ 7 + x.rule

-- what is written for an input: the tree's words where it is accepted, else none
unfoldable pub tree_words : Grammar → Choice → List ℕ → List ℕ
tree_words G choice w = choose (accepts G choice w) (map vertex_word (tree_of G choice w).vertices) []

-- the calls of the tree: the start at 0, and what is below a call of it
pub data InTree (G : Grammar) (choice : Choice) (w : List ℕ) : Call → Type 0 where
  start : InTree G choice w (call_at 0 0)
  more : {x y : Call} → InTree G choice w x → Memᴰ y (below G choice w x) → InTree G choice w y
