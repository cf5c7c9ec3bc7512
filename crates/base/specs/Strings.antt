-- The lookahead string at a place, and the strings that a lookahead string can be.
use Rattle.std.specs.Prelude.{List, [], ◌∷◌, ◌++◌, Bool, true, false, ◌&&◌, ℕ, zero, suc, ◌≤◌, length, take, drop, T, eqb, ltb}
use Rattle.base.specs.Quantifiers.{all_of}
use Rattle.base.specs.FiniteSets.{numbers_below, combine}

-- the first k tokens from i on, fewer at the end
unfoldable pub look : ℕ → List ℕ → ℕ → List ℕ
look k w i = take k (drop i w)

-- a string over n terminals
abbrev pub Over : ℕ → List ℕ → Type 0
Over n x = T (all_of (λ a. ltb a n) x)

-- one of at most k terminals; the empty one stands for the end (document 01, k = 1: a letter or "nothing")
abbrev pub Lookahead : ℕ → ℕ → List ℕ → Type 0
Lookahead k n x = (length x ≤ k) × Over n x

-- every string of at most k terminals below n: by the first terminal in order, and the empty string last (document 01, k = 1: the columns of a row)
unfoldable pub strings : ℕ → ℕ → List (List ℕ)
strings zero n = [] ∷ []
strings (suc k) n = combine (λ a x. a ∷ x) (numbers_below n) (strings k n) ++ [] ∷ []

unfoldable pub same_string : List ℕ → List ℕ → Bool
same_string [] [] = true
same_string [] (y ∷ ys) = false
same_string (x ∷ xs) [] = false
same_string (x ∷ xs) (y ∷ ys) = eqb x y && same_string xs ys
