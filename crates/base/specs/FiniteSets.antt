-- Finite sets written out as lists, and lists without repetition.
use Rattle.std.specs.Prelude.{Bool, true, false, ℕ, zero, suc}
use mathlib.Core.List.{List, [], ◌∷◌, ◌++◌, map, Memᴰ}
use Rattle.base.specs.Quantifiers.{any_of}

module _ {X : Type 0} where
  -- a member of the list, by a test for equality
  unfoldable pub member : (X → X → Bool) → List X → X → Bool
  member same l x = any_of (same x) l

  -- the members of the list that pass
  unfoldable pub keep : (X → Bool) → List X → List X
  keep p [] = []
  keep p (x ∷ l) = elim (p x) [ true ↦ x ∷ keep p l | false ↦ keep p l ]

  -- each member once
  unfoldable pub distinct : (X → X → Bool) → List X → List X
  distinct same [] = []
  distinct same (x ∷ l) = let d = distinct same l in elim (member same d x) [ true ↦ d | false ↦ x ∷ d ]

-- n numbers from a on
unfoldable pub numbers_from : ℕ → ℕ → List ℕ
numbers_from a zero = []
numbers_from a (suc n) = a ∷ numbers_from (suc a) n

-- the numbers below n
unfoldable pub numbers_below : ℕ → List ℕ
numbers_below n = numbers_from 0 n

-- one of the first list with one of the second, in every way
module _ {X Y Z : Type 0} (f : X → Y → Z) where
  unfoldable pub combine : List X → List Y → List Z
  combine [] ys = []
  combine (x ∷ xs) ys = map (f x) ys ++ combine xs ys

module _ {A : Type 0} where
  -- no element twice
  abbrev pub Distinct : List A → Type 0
  Distinct [] = Unit {0}
  Distinct (x ∷ l) = (Memᴰ x l → ⊥) × Distinct l
