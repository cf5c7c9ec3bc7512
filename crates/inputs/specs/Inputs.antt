-- All inputs of one length in letter order, and among how many a search goes.
use Rattle.std.specs.Prelude.{Bool, false, ◌&&◌, ◌||◌, List, [], ◌∷◌, ◌++◌, ℕ, zero, suc, eqb, ltb}
use Rattle.base.specs.FiniteSets.{numbers_below, combine}

-- every string of k terminals below n: those of one terminal less, in order, each followed by each terminal (document 02: letter order)
unfoldable pub inputs : ℕ → ℕ → List (List ℕ)
inputs n zero = [] ∷ []
inputs n (suc k) = combine (λ x a. x ++ a ∷ []) (inputs n k) (numbers_below n)

-- an input comes before another: its first token that is another is lower
unfoldable pub before : List ℕ → List ℕ → Bool
before [] y = false
before (a ∷ x) [] = false
before (a ∷ x) (b ∷ y) = ltb a b || (eqb a b && before x y)

-- among how many inputs a search goes
abbrev pub max_inputs : ℕ
max_inputs = 4096
