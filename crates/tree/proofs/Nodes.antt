-- The descendants for a body that was read: each corresponds to its symbol, they cut the span, and the vertices among them are those of the body's calls.
use mathlib.Core.List.{List, [], ◌∷◌, map, flatten, Memᴰ}
use mathlib.Core.Logic.{◌⊎◌, inl, inr}
use mathlib.Core.Option.{some}
use mathlib.Core.Path.{◌≡◌, refl, ap}
use Prim.Native.Nat.{ℕ, zero, suc, ◌+◌, ◌≤◌, ◌<◌}
use native.Mathlib.Decide.{dec_lt, ℕ_discrete}
use native.Mathlib.Omega.{arith}
use lib.ListN.{length, get_elem?, length-append}
use Rattle.word.specs.declared.Symbol.TheVariants.{Terminal, Nonterminal}
use Rattle.grammar.specs.Syntax.{Body, Grammar}
use Rattle.semantics.specs.Valuations.{Valuation, Solves}
use Rattle.base.specs.Strings.{Over}
use Rattle.semantics.specs.Choices.{table_choice}
use Rattle.semantics.specs.ComesTo.{Call, call_at, body_comes_to}
use Rattle.semantics.specs.Predictive.{Predictive}
use Rattle.tree.specs.ParseTrees.{Vertex, Node, Leaf, Inner, from, to, leaves, Pairwise, Corresponds, Cut}
use Rattle.tree.specs.Writing.{vertex_at, body_nodes}
use Rattle.tree.proofs.Reading.{outcomes, Found, Reads, Chosen, chosen}
use Rattle.tree.proofs.Below.{comes_token, comes_name}

abbrev vertex_of : Vertex → Node → Vertex
vertex_of d (Leaf p) = d
vertex_of d (Inner x) = x

pub inner_same : (x y : Vertex) → Inner x ≡ Inner y → x ≡ y
inner_same x y e = ap (vertex_of x) e

abbrev code : Node → ℕ
code (Leaf p) = 0
code (Inner x) = 1

pub inner_leaf : (x : Vertex) (p : ℕ) → Inner x ≡ Leaf p → ⊥
inner_leaf x p e = absurd (omega (arith, ap code e))

-- what is cut in order, and each piece, lies within the span
cut_onward : (ns : List Node) (i j : ℕ) → Cut i j ns → i ≤ j
cut_onward [] i j e = omega (arith, e)
cut_onward (n ∷ ns) i j c = omega (arith, c.1, cut_onward ns c.0 j c.4)

pub cut_within : (ns : List Node) (i j : ℕ) → Cut i j ns → (n : Node) → Memᴰ n ns → (i ≤ from n) × (to n ≤ j)
cut_within [] i j c n u = absurd (mathlib.Core.List.Memᴰ.not-nil u)
cut_within (x ∷ ns) i j c n u = elim (mathlib.Core.List.Memᴰ.cases_cons u) [
  | inl e ↦ rw e (omega (arith, c.2), omega (arith, c.3, cut_onward ns c.0 j c.4))
  | inr t ↦ let r = cut_within ns c.0 j c.4 n t in (omega (arith, r.0, c.1), r.1)
]

-- leaves
pub leaves_cut : (n i j : ℕ) → i + n ≡ j → Cut i j (leaves i n)
unfolding leaves
leaves_cut zero i j e = omega arith
leaves_cut (suc n) i j e = (suc i, omega arith, refl, refl, leaves_cut n (suc i) j (omega arith))

pub leaves_have : (n i p : ℕ) → i ≤ p → p < i + n → Memᴰ (Leaf p) (leaves i n)
unfolding leaves
leaves_have zero i p h l = absurd (omega arith)
leaves_have (suc n) i p h l = elim (ℕ_discrete p i) [
  | yes e ↦ mathlib.Core.List.Memᴰ.head (ap Leaf e)
  | no e ↦ mathlib.Core.List.Memᴰ.tail (leaves_have n (suc i) p (omega (arith, e)) (omega arith))
]

pub leaves_only : (n i : ℕ) (x : Vertex) → Memᴰ (Inner x) (leaves i n) → ⊥
unfolding leaves
leaves_only zero i x m = mathlib.Core.List.Memᴰ.not-nil m
leaves_only (suc n) i x m = elim (mathlib.Core.List.Memᴰ.cases_cons m) [
  | inl e ↦ inner_leaf x i e
  | inr k ↦ leaves_only n (suc i) x k
]

-- as many as there are symbols
module _ (at : Call → Vertex) where
  nodes_length : (b : Body) (i : ℕ) → length (body_nodes at b i) ≡ length b
  unfolding body_nodes
  nodes_length [] i = refl
  nodes_length (Terminal a ∷ b) i = ap suc (nodes_length b (suc i))
  nodes_length (Nonterminal A ∷ b) i = ap suc (nodes_length b (at (call_at A i)).end)

  pub conjuncts_length : (ps : List Body) (i : ℕ) → length (flatten (map (λ b. body_nodes at b i) ps)) ≡ length (flatten ps)
  unfolding flatten
  conjuncts_length [] i = refl
  conjuncts_length (b ∷ ps) i =
      omega (
        arith,
        length-append (body_nodes at b i) (flatten (map (λ b. body_nodes at b i) ps)),
        length-append b (flatten ps),
        nodes_length b i,
        conjuncts_length ps i,
      )

module _ (G : Grammar) (k : ℕ) (w : List ℕ) where
  abbrev pub at : Call → Vertex
  at = vertex_at G (table_choice G k w) w

  pub vertex_end : (A i m : ℕ) → Found G k w A i m → (at (call_at A i)).end ≡ m
  unfolding vertex_at
  vertex_end A i m f = rw f.ends refl

  pub nodes_cut : (b : Body) (i j : ℕ) → Reads G k w j b i → Cut i j (body_nodes at b i)
  unfolding body_nodes vertex_at
  nodes_cut [] i j h = h
  nodes_cut (Terminal a ∷ b) i j h = (suc i, omega arith, refl, refl, nodes_cut b (suc i) j h.2)
  nodes_cut (Nonterminal A ∷ b) i j h =
      let e = vertex_end A i h.0 h.1 in
      (h.0, h.1.onward, refl, e, rw e (nodes_cut b h.0 j h.2))

  -- the vertices among them
  pub inner_node : (b : Body) (i j : ℕ) → Reads G k w j b i → (y : Call) → Memᴰ y (body_comes_to (outcomes G k w) w b i)
      → Memᴰ (Inner (at y)) (body_nodes at b i)
  unfolding body_nodes body_comes_to
  inner_node [] i j h y m = absurd (mathlib.Core.List.Memᴰ.not-nil m)
  inner_node (Terminal a ∷ b) i j h y m =
      mathlib.Core.List.Memᴰ.tail (inner_node b (suc i) j h.2 y (rw (comes_token (outcomes G k w) w a b i h.0 h.1) at m))
  inner_node (Nonterminal A ∷ b) i j h y m =
      let m' : Memᴰ y (call_at A i ∷ body_comes_to (outcomes G k w) w b h.0) = rw (comes_name (outcomes G k w) w A b i h.0 h.1.ends) at m in
      elim (mathlib.Core.List.Memᴰ.cases_cons m') [
        | inl e ↦ mathlib.Core.List.Memᴰ.head (ap (λ z. Inner (at z)) e)
        | inr n ↦
            let n' : Memᴰ (Inner (at y)) (body_nodes at b (at (call_at A i)).end) = rw (vertex_end A i h.0 h.1) (inner_node b h.0 j h.2 y n) in
            mathlib.Core.List.Memᴰ.tail n'
      ]

  pub node_inner : (b : Body) (i j : ℕ) → Reads G k w j b i → (x : Vertex) → Memᴰ (Inner x) (body_nodes at b i)
      → (y : Call) × Memᴰ y (body_comes_to (outcomes G k w) w b i) × (x ≡ at y)
  unfolding body_nodes
  node_inner [] i j h x m = absurd (mathlib.Core.List.Memᴰ.not-nil m)
  node_inner (Terminal a ∷ b) i j h x m = elim (mathlib.Core.List.Memᴰ.cases_cons m) [
    | inl e ↦ absurd (inner_leaf x i e)
    | inr n ↦ let r = node_inner b (suc i) j h.2 x n in (r.0, rw (comes_token (outcomes G k w) w a b i h.0 h.1) r.1, r.2)
  ]
  node_inner (Nonterminal A ∷ b) i j h x m = elim (mathlib.Core.List.Memᴰ.cases_cons m) [
    | inl e ↦ (call_at A i, rw (comes_name (outcomes G k w) w A b i h.0 h.1.ends) (mathlib.Core.List.Memᴰ.head refl), inner_same x (at (call_at A i)) e)
    | inr n ↦
        let r = node_inner b h.0 j h.2 x (rw (vertex_end A i h.0 h.1) at n) in
        (r.0, rw (comes_name (outcomes G k w) w A b i h.0 h.1.ends) (mathlib.Core.List.Memᴰ.tail r.1), r.2)
  ]

  -- a token of the span is a leaf, or lies in the span of a call
  pub nodes_cover : (b : Body) (i j : ℕ) → Reads G k w j b i → (p : ℕ) → i ≤ p → p < j
      → Memᴰ (Leaf p) (body_nodes at b i)
      ⊎ ((y : Call) × Memᴰ y (body_comes_to (outcomes G k w) w b i) × ((m : ℕ) × Found G k w y.nonterminal y.place m × (y.place ≤ p) × (p < m)))
  unfolding body_nodes
  nodes_cover [] i j h p l u = absurd (omega (arith, h))
  nodes_cover (Terminal a ∷ b) i j h p l u = elim (ℕ_discrete p i) [
    | yes e ↦ inl (mathlib.Core.List.Memᴰ.head (ap Leaf e))
    | no e ↦ elim (nodes_cover b (suc i) j h.2 p (omega (arith, e)) u) [
      | inl n ↦ inl (mathlib.Core.List.Memᴰ.tail n)
      | inr r ↦ inr (r.0, rw (comes_token (outcomes G k w) w a b i h.0 h.1) r.1, r.2)
    ]
  ]
  nodes_cover (Nonterminal A ∷ b) i j h p l u = elim (dec_lt p h.0) [
    | yes q ↦ inr (call_at A i, rw (comes_name (outcomes G k w) w A b i h.0 h.1.ends) (mathlib.Core.List.Memᴰ.head refl), (h.0, h.1, l, q))
    | no q ↦ elim (nodes_cover b h.0 j h.2 p (omega (arith, q)) u) [
      | inl n ↦
          let n' : Memᴰ (Leaf p) (body_nodes at b (at (call_at A i)).end) = rw (vertex_end A i h.0 h.1) n in
          inl (mathlib.Core.List.Memᴰ.tail n')
      | inr r ↦ inr (r.0, rw (comes_name (outcomes G k w) w A b i h.0 h.1.ends) (mathlib.Core.List.Memᴰ.tail r.1), r.2)
    ]
  ]

  module _ (p : Predictive G k) (over : Over G.terminals w) (v : Valuation) (solves : Solves G w v) where
    -- the vertex of a call that ends is labelled with the rule that gave the end
    pub vertex_rule : (A i j : ℕ) (f : Chosen G k w p over v solves A i j) → get_elem? G.rules (at (call_at A i)).rule ≡ some f.rule
    unfolding vertex_at
    vertex_rule A i j f = rw f.looked f.numbered

    -- each corresponds to its symbol
    pub nodes_correspond : (vs : List Vertex) (b : Body) (i j : ℕ) → Reads G k w j b i
        → ((y : Call) → Memᴰ y (body_comes_to (outcomes G k w) w b i) → Memᴰ (at y) vs) → Pairwise (Corresponds G w vs) b (body_nodes at b i)
    unfolding body_nodes
    nodes_correspond vs [] i j h q = tt
    nodes_correspond vs (Terminal a ∷ b) i j h q = (
      (h.0, h.1),
      nodes_correspond vs b (suc i) j h.2 (λ y m. q y (rw (comes_token (outcomes G k w) w a b i h.0 h.1) m)),
    )
    nodes_correspond vs (Nonterminal A ∷ b) i j h q =
        let e = comes_name (outcomes G k w) w A b i h.0 h.1.ends in
        let c = chosen G k w p over v solves A i h.0 h.1 in (
          (q (call_at A i) (rw e (mathlib.Core.List.Memᴰ.head refl)), (c.rule, vertex_rule A i h.0 c, c.heads)),
          rw (vertex_end A i h.0 h.1) (nodes_correspond vs b h.0 j h.2 (λ y m. q y (rw e (mathlib.Core.List.Memᴰ.tail m)))),
        )

    pub conjuncts_correspond : (vs : List Vertex) (i j : ℕ) (ps : List Body) → ((b : Body) → Memᴰ b ps → Reads G k w j b i)
        → ((b : Body) → Memᴰ b ps → (y : Call) → Memᴰ y (body_comes_to (outcomes G k w) w b i) → Memᴰ (at y) vs)
        → Pairwise (Pairwise (Corresponds G w vs)) ps (map (λ b. body_nodes at b i) ps)
    conjuncts_correspond vs i j [] h q = tt
    conjuncts_correspond vs i j (b ∷ ps) h q = (
      nodes_correspond vs b i j (h b (mathlib.Core.List.Memᴰ.head refl)) (q b (mathlib.Core.List.Memᴰ.head refl)),
      conjuncts_correspond vs i j ps (λ d m. h d (mathlib.Core.List.Memᴰ.tail m)) (λ d m. q d (mathlib.Core.List.Memᴰ.tail m)),
    )
