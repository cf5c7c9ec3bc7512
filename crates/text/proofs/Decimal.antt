-- A number's digits are those of its tenth and its last digit.
use mathlib.Core.Path.{◌≡◌, ap}
use mathlib.Core.List.{[], ◌∷◌, ◌++◌}
use Prim.Native.Nat.{ℕ, zero, suc, ◌/◌, ◌%◌, ◌^◌, ◌≤◌, ◌<◌}
use native.Mathlib.Nat.{pow-suc}
use native.Mathlib.Omega.{arith}
use native.Mathlib.Decide.{dec_lt}
use borrow.Author.Tests.{lt-ltb, le-ltb}
use Rattle.text.specs.Decimal.{digit, digits, decimal}

-- how many digits there may be does not matter where there may be enough
digits_enough : (f g n : ℕ) → n < 10 ^ suc f → n < 10 ^ suc g → digits (suc f) n ≡ digits (suc g) n
unfolding digits
digits_enough zero g n h k = rw (lt-ltb n 10 (omega arith))
digits_enough (suc f) zero n h k = rw (lt-ltb n 10 (omega arith))
digits_enough (suc f) (suc g) n h k = go (digits_enough f g (n / 10) (tenth f h) (tenth g k)) (dec_lt n 10)
  where
    tenth : (e : ℕ) → n < 10 ^ suc (suc e) → n / 10 < 10 ^ suc e
    tenth e l = omega (arith, pow-suc 10 (suc e))

    go : digits (suc f) (n / 10) ≡ digits (suc g) (n / 10) → Dec (n < 10) → digits (suc (suc f)) n ≡ digits (suc (suc g)) n
    go rest (yes l) = rw (lt-ltb n 10 l)
    go rest (no l) = let e : 10 ≤ n = omega arith in rw (le-ltb n 10 e) (ap (λ d. d ++ (digit (n % 10) ∷ [])) rest)

pub decimal_last : (n : ℕ) → n < 10 → decimal n ≡ digit n ∷ []
unfolding decimal digits
decimal_last n h = rw (lt-ltb n 10 h)

pub decimal_more : (n : ℕ) → 10 ≤ n → n < 10 ^ 20 → decimal n ≡ decimal (n / 10) ++ (digit (n % 10) ∷ [])
unfolding decimal digits
decimal_more n h l = rw (le-ltb n 10 h) (ap (λ d. d ++ (digit (n % 10) ∷ [])) (digits_enough 18 19 (n / 10) (omega arith) (omega arith)))
