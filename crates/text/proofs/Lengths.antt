-- How long texts can be.
use mathlib.Core.Bool.{Bool, true, false}
use mathlib.Core.List.{List, [], ◌∷◌, ◌++◌}
use Prim.Native.Nat.{ℕ, zero, suc, ◌+◌, ◌*◌, ◌/◌, ◌%◌, ◌^◌, ◌≤◌, ◌<◌}
use native.Mathlib.Nat.{pow-suc, suc-mul}
use native.Mathlib.Omega.{arith}
use lib.Dec.{eqb, ltb}
use lib.ListN.{length, length-append}
use borrow.Author.Tests.{lt-ltb}
use Rattle.base.specs.Choice.{choose}
use Rattle.text.specs.Ascii.{ascii}
use Rattle.text.specs.Decimal.{digit, digits, decimal, labelled, or_dash}
use Rattle.text.specs.Writing.{up_to}

-- one of two texts
pub choose_most : (b : Bool) (x y : List ℕ) (n : ℕ) → length x ≤ n → length y ≤ n → length (choose b x y) ≤ n
choose_most true x y n h k = h
choose_most false x y n h k = k

-- no number has more than 20 digits here, and none more than its size asks for
digits_most : (most n : ℕ) → length (digits most n) ≤ most
unfolding digits
digits_most zero n = omega arith
digits_most (suc most) n =
    choose_most (ltb n 10) (digit n ∷ []) (digits most (n / 10) ++ (digit (n % 10) ∷ [])) (suc most) (omega arith)
    (omega (arith, length-append (digits most (n / 10)) (digit (n % 10) ∷ []), digits_most most (n / 10)))

pub decimal_most : (n : ℕ) → length (decimal n) ≤ 20
unfolding decimal
decimal_most n = digits_most 20 n

digits_few : (most k n : ℕ) → n < 10 ^ suc k → length (digits most n) ≤ suc k
unfolding digits
digits_few zero k n h = omega arith
digits_few (suc most) zero n h = rw (lt-ltb n 10 (omega arith)) (omega arith)
digits_few (suc most) (suc k) n h = go (digits_few most k (n / 10) (omega (arith, pow-suc 10 (suc k))))
  where
    go : length (digits most (n / 10)) ≤ suc k
        → length (choose (ltb n 10) (digit n ∷ []) (digits most (n / 10) ++ (digit (n % 10) ∷ []))) ≤ suc (suc k)
    go l =
        choose_most (ltb n 10) (digit n ∷ []) (digits most (n / 10) ++ (digit (n % 10) ∷ [])) (suc (suc k)) (omega arith)
        (omega (arith, length-append (digits most (n / 10)) (digit (n % 10) ∷ [])))

pub decimal_few : (k n : ℕ) → n < 10 ^ suc k → length (decimal n) ≤ suc k
unfolding decimal
decimal_few k n h = digits_few 20 k n h

pub dash_within : (none n b : ℕ) → length (decimal n) ≤ b → 1 ≤ b → length (or_dash none n) ≤ b + 1
unfolding or_dash
dash_within none n b h k = choose_most (eqb n none) (ascii " -") (labelled " " n) (b + 1) (omega arith) (omega arith)

-- a row of texts
pub up_to_most : (n b : ℕ) (f : ℕ → List ℕ) → ((k : ℕ) → k < n → length (f k) ≤ b) → length (up_to n f) ≤ n * b
unfolding up_to
up_to_most zero b f h = omega arith
up_to_most (suc n) b f h =
    omega (arith, length-append (up_to n f) (f n), up_to_most n b f (λ k l. h k (omega arith)), h n (omega arith), suc-mul n b)
