-- Which sequences of terminals may follow a nonterminal, and when one of them agrees with what is left of an input.
use Rattle.std.specs.Prelude.{◌≡◌, true, ◌⊎◌, ℕ, ◌≤◌, ◌<◌, length, get_or, take, drop}
use mathlib.Core.List.{List, [], ◌∷◌, ◌++◌, Memᴰ}
use Rattle.word.specs.declared.Symbol.TheVariants.{Nonterminal}
use Rattle.grammar.specs.Syntax.{Body, Rule, Grammar, bodies}
use Rattle.semantics.specs.Valuations.{Valuation, contains, Solves}
use Rattle.base.specs.Strings.{Over}

-- a sequence of terminals, of any length, belongs to a body: by the valuation that solves the grammar on that sequence alone, the body contains the
-- whole of it (without left recursion there is just one such valuation: `OneSolution` of semantics/specs/Theorems.antt)
pub record Belongs (G : Grammar) (b : Body) (x : List ℕ) : Type 0 where
  pub terminals : Over G.terminals x
  pub whole : (v : Valuation) → Solves G x v → contains v x b 0 (length x) ≡ true

-- the empty sequence may follow the start; if u may follow the head of a rule, and a body of the rule, positive or negative, has A with rest b, then
-- each sequence that belongs to b, joined before u, may follow A
pub data MayFollow (G : Grammar) : ℕ → List ℕ → Type 0 where
  start : MayFollow G 0 []
  behind : (r : Rule) → Memᴰ r G.rules → (front : Body) (A : ℕ) (b : Body) → Memᴰ (front ++ (Nonterminal A ∷ b)) (bodies r)
      → (x : List ℕ) → Belongs G b x → (u : List ℕ) → MayFollow G r.head u → MayFollow G A (x ++ u)

-- two sequences have the same first k tokens or, where either has fewer than k, are equal
abbrev pub SameFirst : ℕ → List ℕ → List ℕ → Type 0
SameFirst k u y = ((k ≤ length u) × (k ≤ length y) × (take k u ≡ take k y)) ⊎ (((length u < k) ⊎ (length y < k)) × (u ≡ y))

-- as far as k tokens of lookahead go, u is what the input has from j on (document 02, of the second lookahead: k = 2)
abbrev pub Agrees : ℕ → List ℕ → ℕ → List ℕ → Type 0
Agrees k w j u = SameFirst k u (drop j w)

-- with one token in document 02's words: u begins with the token at j, or is empty and j is the input's end
abbrev pub Begins : List ℕ → ℕ → List ℕ → Type 0
Begins w j u = ((j < length w) × (y : List ℕ) × (u ≡ get_or w j 0 ∷ y)) ⊎ ((j ≡ length w) × (u ≡ []))
