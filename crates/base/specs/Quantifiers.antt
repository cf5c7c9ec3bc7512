-- 'Some', 'every', 'how many' and 'the lowest', as functions of a test over a list or over the numbers below a bound.
use Rattle.std.specs.Prelude.{Bool, true, false, ◌&&◌, ◌||◌, List, [], ◌∷◌, ℕ, zero, suc, ◌+◌}
use Rattle.std.proofs.Math.Option.{Option, none, some}
use Rattle.base.specs.Choice.{choose}

module _ {A : Type 0} where
  unfoldable pub any_of : (A → Bool) → List A → Bool
  any_of p [] = false
  any_of p (x ∷ xs) = p x || any_of p xs

  unfoldable pub all_of : (A → Bool) → List A → Bool
  all_of p [] = true
  all_of p (x ∷ xs) = p x && all_of p xs

-- some number below n passes
unfoldable pub any_below : ℕ → (ℕ → Bool) → Bool
any_below zero p = false
any_below (suc n) p = p n || any_below n p

abbrev pub one : Bool → ℕ
one true = 1
one false = 0

-- how many numbers below n pass
unfoldable pub count_below : ℕ → (ℕ → Bool) → ℕ
count_below zero p = 0
count_below (suc n) p = one (p n) + count_below n p

-- the lowest number below n that passes
unfoldable pub lowest : ℕ → (ℕ → Bool) → Option ℕ
lowest zero p = none
lowest (suc n) p = choose (any_below n p) (lowest n p) (choose (p n) (some n) none)
