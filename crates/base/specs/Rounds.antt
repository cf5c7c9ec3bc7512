-- Sets as tests, and the set that an operator builds in rounds from the empty one, each round written out as a list.
use Rattle.std.specs.Prelude.{Bool, true, false, List, [], ℕ, zero, suc, T, eqb, length}
use Rattle.base.specs.FiniteSets.{member, keep}

abbrev pub NumberSet : Type 0
NumberSet = ℕ → Bool

abbrev pub ◌⊆ᵇ◌ : {X : Type 0} → (X → Bool) → (X → Bool) → Type 0
◌⊆ᵇ◌ {X} s s' = (x : X) → T (s x) → T (s' x)

infix 40 ◌⊆ᵇ◌
module _ {X : Type 0} (same : X → X → Bool) (universe : List X) (Φ : (X → Bool) → X → Bool) where
  -- those of the universe that the operator gives from the set s
  unfoldable pub round : List X → List X
  round s = keep (Φ (member same s)) universe

  -- n rounds from the set s on, or fewer where one adds nothing
  unfoldable pub settle : ℕ → List X → List X
  settle zero s = s
  settle (suc n) s = let s' = round s in elim (eqb (length s') (length s)) [ true ↦ s | false ↦ settle n s' ]

  -- as many rounds as the universe has members are enough
  unfoldable pub members : List X
  members = settle (length universe) []

  -- for an operator that gives more from more: the least set that is closed under it
  unfoldable pub least : X → Bool
  least = member same members
