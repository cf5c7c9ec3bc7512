-- Valuations: which nonterminal derives which span of an input, what the rules ask of that, and the solution computed.
use Rattle.std.specs.Prelude.{◌≡◌, Bool, false, not, ◌&&◌, List, [], ◌∷◌, ℕ, zero, suc, ◌*◌, ◌≤◌, ◌<◌, length, get_or, leb, ltb, eqb}
use Rattle.word.specs.declared.Symbol.TheVariants.{Terminal, Nonterminal}
use Rattle.grammar.specs.Syntax.{Body, Rule, Grammar}
use Rattle.base.specs.Quantifiers.{any_of, all_of, any_below}

-- yes or no for a nonterminal and a span from i to j (document 01: a way)
abbrev pub Valuation : Type 0
Valuation = ℕ → ℕ → ℕ → Bool

-- the span from i to j can be cut into pieces, one for each symbol of the body (document 01: a body contains the stretch)
unfoldable pub contains : Valuation → List ℕ → Body → ℕ → ℕ → Bool
contains v w [] i j = eqb i j
contains v w (Terminal a ∷ b) i j = ltb i j && (eqb (get_or w i 0) a && contains v w b (suc i) j)
contains v w (Nonterminal A ∷ b) i j = any_below (suc j) (λ m. leb i m && (v A i m && contains v w b m j))

-- a rule of A whose positive bodies all contain the span, and whose negative ones do not
unfoldable pub derives : Valuation → List ℕ → ℕ → ℕ → ℕ → Rule → Bool
derives v w A i j r =
    eqb r.head A && (all_of (λ b. contains v w b i j) r.positives && not (any_of (λ b. contains v w b i j) r.negatives))

-- what the rules answer where bodies are read by v
unfoldable pub by_rules : Grammar → List ℕ → Valuation → Valuation
by_rules G w v A i j = any_of (derives v w A i j) G.rules

unfoldable pub rounds : Grammar → List ℕ → ℕ → Valuation → Valuation
rounds G w zero v = v
rounds G w (suc n) v = by_rules G w (rounds G w n v)

-- each answer is the one that the rules give (document 01: a way keeps the rules)
abbrev pub Solves : Grammar → List ℕ → Valuation → Type 0
Solves G w v = (A i j : ℕ) → A < G.nonterminals → i ≤ j → j ≤ length w → v A i j ≡ by_rules G w v A i j

-- how many pairs of a nonterminal and a place there are: without left recursion so many rounds, and so deep a descent, are enough
abbrev pub pairs : Grammar → List ℕ → ℕ
pairs G w = G.nonterminals * suc (length w)

-- the valuation that solves a grammar without left recursion, computed
unfoldable pub solution : Grammar → List ℕ → Valuation
solution G w = rounds G w (pairs G w) (λ _ _ _. false)
