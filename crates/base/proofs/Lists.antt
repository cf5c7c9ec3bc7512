-- A list is written out by the function that gives its elements.
use mathlib.Core.Path.{◌≡◌, refl, ap, ap₂}
use mathlib.Core.List.{List, [], ◌∷◌}
use Prim.Native.Nat.{ℕ, zero, suc, ◌<◌}
use native.Mathlib.Omega.{arith}
use lib.ListN.{length, get_or, replicate}
use Rattle.base.specs.Lists.{listed}

pub listed_is : (n : ℕ) (f : ℕ → ℕ) (l : List ℕ) → length l ≡ n → ((i : ℕ) → get_or l i 0 ≡ f i) → l ≡ listed n f
unfolding listed
listed_is zero f [] e h = refl
listed_is zero f (x ∷ l) e h = absurd (omega arith)
listed_is (suc n) f [] e h = absurd (omega arith)
listed_is (suc n) f (x ∷ l) e h = ap₂ ◌∷◌ (h 0) (listed_is n (λ i. f (suc i)) l (omega arith) (λ i. h (suc i)))

-- and such a list has the function's values, and zeros behind them
pub listed_long : (n : ℕ) (f : ℕ → ℕ) → length (listed n f) ≡ n
unfolding listed
listed_long zero f = refl
listed_long (suc n) f = ap suc (listed_long n (λ i. f (suc i)))

pub listed_at : (n : ℕ) (f : ℕ → ℕ) (i : ℕ) → i < n → get_or (listed n f) i 0 ≡ f i
unfolding listed
listed_at zero f i h = absurd (omega arith)
listed_at (suc n) f zero h = refl
listed_at (suc n) f (suc i) h = listed_at n (λ k. f (suc k)) i (omega arith)

-- so it stays below what the values and zero stay below
pub listed_below : (n : ℕ) (f : ℕ → ℕ) (m : ℕ) → 0 < m → ((i : ℕ) → f i < m) → (i : ℕ) → get_or (listed n f) i 0 < m
unfolding listed
listed_below zero f m h b i = h
listed_below (suc n) f m h b zero = b 0
listed_below (suc n) f m h b (suc i) = listed_below n (λ k. f (suc k)) m h (λ k. b (suc k)) i

-- an array of zeros has zeros alone
pub get_d_zeros : (n i : ℕ) → ◌≡◌ {A = ℕ} (get_or (replicate n 0) i 0) 0
get_d_zeros zero i = refl
get_d_zeros (suc n) zero = refl
get_d_zeros (suc n) (suc i) = get_d_zeros n i
