-- A lookahead set (document 01: event set) is a number, the sum of its elements' weights.
use Rattle.std.specs.Prelude.{Bool, ℕ, zero, suc, ◌+◌, ◌*◌, ◌/◌, ◌%◌, ◌^◌, eqb}
use Rattle.base.specs.Quantifiers.{one, count_below}

abbrev pub weight : ℕ → ℕ
weight l = 2 ^ l

-- l is an element of the set s
unfoldable pub has : ℕ → ℕ → Bool
has s l = eqb (s / weight l % 2) 1

-- the weights of the numbers below k that pass the test, added up
unfoldable pub total_weight : ℕ → (ℕ → Bool) → ℕ
total_weight zero p = 0
total_weight (suc k) p = one (p k) * weight k + total_weight k p

-- the bits of a set's number
abbrev pub width : ℕ
width = 64

-- how many elements a set has
unfoldable pub size : ℕ → ℕ
size s = count_below width (has s)
