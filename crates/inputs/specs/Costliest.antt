-- Of all inputs of one length the first that costs the most, by any cost.
use Rattle.std.specs.Prelude.{◌≡◌, List, [], ◌∷◌, ℕ, ◌≤◌, ◌<◌, T, ltb, length}
use Rattle.base.specs.Choice.{choose}
use Rattle.base.specs.Strings.{Over}
use Rattle.inputs.specs.Inputs.{inputs, before}

module _ (cost : List ℕ → ℕ) where
  -- the first that costs the most, of an input and of those behind it: another takes its place only where it costs more
  unfoldable pub costliest_from : List ℕ → List (List ℕ) → List ℕ
  costliest_from x [] = x
  costliest_from x (y ∷ l) = costliest_from (choose (ltb (cost x) (cost y)) y x) l

  abbrev pub first_costliest : List (List ℕ) → List ℕ
  first_costliest [] = []
  first_costliest (x ∷ l) = costliest_from x l

  -- of k terminals below n (document 02: the most costly log of a length)
  unfoldable pub costliest : ℕ → ℕ → List ℕ
  costliest n k = first_costliest (inputs n k)

-- an input of k terminals below n such that none costs more, and each that comes before it costs less
pub record CostliestOf (cost : List ℕ → ℕ) (n k : ℕ) (w : List ℕ) : Type 0 where
  pub long : length w ≡ k
  pub tokens : Over n w
  pub greatest : (x : List ℕ) → length x ≡ k → Over n x → cost x ≤ cost w
  pub first : (x : List ℕ) → length x ≡ k → Over n x → T (before x w) → cost x < cost w
