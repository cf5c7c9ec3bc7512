-- Families of sets, a set for each nonterminal, and the least family that a condition closes; what "closed" means is a parameter.
use Rattle.std.specs.Prelude.{◌≡◌, Bool, false, not, List, [], ◌∷◌, ℕ, ◌+◌, ◌%◌, ◌≤◌, eqb, length, get_or, set}
use Rattle.std.proofs.Math.Option.{Option, none, some}
use Rattle.grammar.specs.Limits.{max_nonterminals}
use Rattle.base.specs.Quantifiers.{one}
use Rattle.lookahead.specs.inner.Elements.{Subset}
use Rattle.lookahead.specs.inner.Operations.{join}

-- for each nonterminal the number of a set
abbrev pub SetFamily : Type 0
SetFamily = ℕ → ℕ

-- the family that an array holds
abbrev pub at : List ℕ → SetFamily
at l n = get_or l n 0

-- the same as far as there are nonterminals; greater numbers are counted round
unfoldable pub lookup : List ℕ → SetFamily
lookup l n = get_or l (n % max_nonterminals) 0

-- each set of F is contained in that of G
abbrev pub Under : SetFamily → SetFamily → Type 0
Under F G = (n : ℕ) → Subset (F n) (G n)

-- closed, and under every closed family
pub record LeastNumbers (Closed : SetFamily → Type 0) (l : List ℕ) : Type 0 where
  pub closed : Closed (at l)
  pub least : (G : SetFamily) → Closed G → Under (at l) G

-- v is joined into the set of n
abbrev pub joined_at : List ℕ → ℕ → ℕ → List ℕ
joined_at l n v = set l n (join (at l n) v)

-- and it is reported whether the set has grown
pub record AddsToSet (l : List ℕ) (n v : ℕ) (l' : List ℕ) (grown : Bool) : Type 0 where
  pub list : l' ≡ joined_at l n v
  pub told : grown ≡ not (eqb (join (at l n) v) (at l n))

-- the same where there is such an n; else nothing changes
abbrev pub AddsTo : Option ℕ → List ℕ → ℕ → List ℕ → Bool → Type 0
AddsTo none l v l' grown = (l' ≡ l) × (grown ≡ false)
AddsTo (some n) l v l' grown = AddsToSet l n v l' grown

-- the numbers of an array together: what rises where a set grows
unfoldable pub sum : List ℕ → ℕ
sum [] = 0
sum (s ∷ l) = s + sum l

-- what a pass, or a part of one, does to an array: from l₀ to l, for what Closed asks of a family; what it adds, each family of Whole has
pub record Passing (Whole Closed : SetFamily → Type 0) (l₀ l : List ℕ) (grown : Bool) : Type 0 where
  pub long : length l ≡ length l₀
  pub same : grown ≡ false → l ≡ l₀
  pub risen : Under (at l₀) (at l)
  pub grows : sum l₀ + one grown ≤ sum l
  pub still : grown ≡ false → Closed (at l)
  pub below : (G : SetFamily) → Whole G → Under (at l₀) G → Under (at l) G

-- for all that is asked
abbrev pub Passes : (SetFamily → Type 0) → List ℕ → List ℕ → Bool → Type 0
Passes Closed l₀ l grown = Passing Closed Closed l₀ l grown
