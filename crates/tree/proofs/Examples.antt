-- Trees of document 01's grammars and of others, by computation.
use mathlib.Core.List.{List, [], ◌∷◌}
use mathlib.Core.Path.{◌≡◌, refl}
use Prim.Native.Nat.{ℕ}
use Rattle.word.specs.declared.Symbol.TheVariants.{Terminal, Nonterminal}
use Rattle.grammar.specs.Syntax.{Grammar}
use Rattle.grammar.specs.examples.Cards.{grammar_r, grammar_m, grammar_e}
use Rattle.semantics.specs.Choices.{table_choice}
use Rattle.semantics_examples.proofs.Computing.{tables_compute, descent_computes, calls_compute}
use Rattle.semantics_examples.proofs.Tables.{others}
use Rattle.tree.specs.ParseTrees.{Vertex, Node, Leaf, Inner, vertex, leaves}
use Rattle.tree.specs.Writing.{vertex_at, body_nodes, conjunct_nodes, rule_nodes, descendants_of, rule_calls, below, each, visit, tree_calls, tree_of}
use Rattle.tree.specs.Writing.{vertex_word, tree_words}

-- by one token of lookahead
abbrev words_of : Grammar → List ℕ → List ℕ
words_of G w = tree_words G (table_choice G 1 w) w

abbrev descends_of : Grammar → List ℕ → Vertex → List (List Node)
descends_of G w = descendants_of G (table_choice G 1 w) w

unfoldable trees_compute : Unit {0}
unfolding tables_compute descent_computes calls_compute vertex_at body_nodes conjunct_nodes rule_nodes descendants_of rule_calls below each visit
    tree_calls tree_of vertex_word tree_words leaves
trees_compute = tt

-- S → a S | ε on a: rule 0 over the whole, rule 1 over nothing
R_a : ◌≡◌ {A = List ℕ} (words_of grammar_r (0 ∷ [])) (0x80010000 ∷ 0x80010081 ∷ [])
unfolding trees_compute
R_a = refl

-- S, then A over aa with what is below it, then D over bc
M_aabc : ◌≡◌ {A = List ℕ} (words_of grammar_m (0 ∷ 0 ∷ 1 ∷ 2 ∷ []))
    (0x80040000 ∷ 0x80020001 ∷ 0x80020081 ∷ 0x80020102 ∷ 0x80040107 ∷ 0x80030188 ∷ [])
unfolding trees_compute
M_aabc = refl

-- a rejected input has none
M_abc : ◌≡◌ {A = List ℕ} (words_of grammar_m (0 ∷ 1 ∷ 2 ∷ [])) []
unfolding trees_compute
M_abc = refl

-- negative conjuncts have no vertices: neither b nor C of A's rule is there
E_ab : ◌≡◌ {A = List ℕ} (words_of grammar_e (0 ∷ 1 ∷ [])) (0x80020000 ∷ 0x80010001 ∷ 0x80010002 ∷ [])
unfolding trees_compute
E_ab = refl

-- S → A & A, A → a: the second conjunct meets A again
abbrev twice : Grammar
twice = record {
  nonterminals = 2;
  terminals = 1;
  rules =
      record { head = 0; positives = (Nonterminal 1 ∷ []) ∷ (Nonterminal 1 ∷ []) ∷ []; negatives = [] }
      ∷ record { head = 1; positives = (Terminal 0 ∷ []) ∷ []; negatives = [] } ∷ [];
}

twice_a : ◌≡◌ {A = List ℕ} (words_of twice (0 ∷ [])) (0x80010000 ∷ 0x80010001 ∷ [])
unfolding trees_compute
twice_a = refl

-- and is a descendant for each of them
twice_descends : ◌≡◌ {A = List (List Node)} (descends_of twice (0 ∷ []) (vertex 0 0 1))
    ((Inner (vertex 1 0 1) ∷ []) ∷ (Inner (vertex 1 0 1) ∷ []) ∷ [])
unfolding trees_compute
twice_descends = refl

-- a rule without positive conjuncts: one vertex, and the span's tokens are its leaves
others_aa : ◌≡◌ {A = List ℕ} (words_of others (0 ∷ 0 ∷ [])) (0x80020000 ∷ [])
unfolding trees_compute
others_aa = refl

others_descends : ◌≡◌ {A = List (List Node)} (descends_of others (0 ∷ 0 ∷ []) (vertex 0 0 2)) ((Leaf 0 ∷ Leaf 1 ∷ []) ∷ [])
unfolding trees_compute
others_descends = refl

-- S → C C, C → ε: one vertex for two symbols, written once
abbrev doubled : Grammar
doubled = record {
  nonterminals = 2;
  terminals = 1;
  rules =
      record { head = 0; positives = (Nonterminal 1 ∷ Nonterminal 1 ∷ []) ∷ []; negatives = [] }
      ∷ record { head = 1; positives = [] ∷ []; negatives = [] } ∷ [];
}

doubled_nothing : ◌≡◌ {A = List ℕ} (words_of doubled []) (0x80000000 ∷ 0x80000001 ∷ [])
unfolding trees_compute
doubled_nothing = refl

-- and is counted as a descendant for each of them
doubled_descends : ◌≡◌ {A = List (List Node)} (descends_of doubled [] (vertex 0 0 0)) ((Inner (vertex 1 0 0) ∷ Inner (vertex 1 0 0) ∷ []) ∷ [])
unfolding trees_compute
doubled_descends = refl
