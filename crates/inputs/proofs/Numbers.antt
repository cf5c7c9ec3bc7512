-- The inputs of one length: each stands at its number, so letter order is the order of numbers.
use mathlib.Core.Path.{◌≡◌, refl, sym, ap, ◌∙◌}
use mathlib.Core.Bool.{◌&&◌}
use mathlib.Core.List.{List, [], ◌∷◌, ◌++◌, append_assoc, append-nil}
use mathlib.Core.Logic.{◌⊎◌, inl, inr}
use Prim.Native.Nat.{ℕ, zero, suc, ◌+◌, ◌*◌, ◌/◌, ◌%◌, ◌^◌, ◌<◌}
use native.Mathlib.Nat.{pow-zero, pow-suc, mod-lt, div-add-mod', div-lt_iff_lt-mul, mul-le-mul_right, one-le-pow}
use native.Mathlib.Omega.{arith}
use lib.Arith.{digits_lt, digits_div, digits_mod}
use lib.Dec.{T, eqb, ltb, eqb→eq, ltb→lt, lt→ltb}
use lib.ListN.{length, get_or, length-append}
use Rattle.base.specs.Quantifiers.{all_of}
use Rattle.base.proofs.Booleans.{and_l, and_r, and_make, or_cases}
use Rattle.base.specs.FiniteSets.{numbers_below}
use Rattle.base.specs.Strings.{Over}
use Rattle.base.proofs.FiniteSets.{numbers_length}
use Rattle.base.proofs.CombinedAt.{combine_at}
use Rattle.base.proofs.Distinct.{combine_length}
use Rattle.inputs.specs.Inputs.{inputs, before}
use Rattle.inputs.specs.inner.Inputs.{input_at}

pub inputs_count : (n k : ℕ) → length (inputs n k) ≡ n ^ k
unfolding inputs
inputs_count n zero = sym (pow-zero n)
inputs_count n (suc k) = combine_length _ (inputs n k) (numbers_below n) ∙ rw (numbers_length n, inputs_count n k) (sym (pow-suc n k))

module _ (n : ℕ) (some_terminal : 0 < n) where
  pub some_input : (k : ℕ) → 0 < n ^ k
  some_input k = omega (arith, one-le-pow k n some_terminal)

  front_low : (k i : ℕ) → i < n ^ suc k → i / n < n ^ k
  front_low k i h = (div-lt_iff_lt-mul some_terminal).1 (rw (pow-suc n k) at h)

  -- the inputs in order are those of the numbers in order
  pub inputs_at : (k i : ℕ) → i < n ^ k → get_or (inputs n k) i [] ≡ input_at n k i
  unfolding inputs input_at
  inputs_at zero zero h = refl
  inputs_at zero (suc i) h = absurd (omega (arith, pow-zero n))
  inputs_at (suc k) i h =
      ap (λ j. get_or (inputs n (suc k)) j []) (sym (div-add-mod' i n))
      ∙ combine_at _ n (inputs n k) (i / n) (i % n) [] [] (omega (arith, inputs_count n k, front_low k i h)) (mod-lt i some_terminal)
      ∙ ap (λ x. x ++ i % n ∷ []) (inputs_at k (i / n) (front_low k i h))

-- the number of an input that follows one of number m
unfoldable pub number_from : ℕ → ℕ → List ℕ → ℕ
number_from n m [] = m
number_from n m (a ∷ x) = number_from n (m * n + a) x

number_last : (n m : ℕ) (x : List ℕ) (a : ℕ) → number_from n m (x ++ a ∷ []) ≡ number_from n m x * n + a
unfolding number_from
number_last n m [] a = refl
number_last n m (b ∷ x) a = number_last n (m * n + b) x a

over_last : (n : ℕ) (x : List ℕ) (a : ℕ) → Over n x → a < n → Over n (x ++ a ∷ [])
unfolding all_of
over_last n [] a h l = and_make (ltb a n) _ (lt→ltb a n l) tt
over_last n (b ∷ x) a h l = and_make (ltb b n) _ (and_l (ltb b n) _ h) (over_last n x a (and_r (ltb b n) _ h) l)

-- the input of a number is of so many terminals, and of that number where it is low enough
pub at_long : (n k i : ℕ) → length (input_at n k i) ≡ k
unfolding input_at
at_long n zero i = refl
at_long n (suc k) i = length-append (input_at n k (i / n)) (i % n ∷ []) ∙ omega (arith, at_long n k (i / n))

pub at_over : (n : ℕ) → 0 < n → (k i : ℕ) → Over n (input_at n k i)
unfolding input_at all_of
at_over n p zero i = tt
at_over n p (suc k) i = over_last n (input_at n k (i / n)) (i % n) (at_over n p k (i / n)) (mod-lt i p)

pub number_at : (n : ℕ) → 0 < n → (k i : ℕ) → i < n ^ k → number_from n 0 (input_at n k i) ≡ i
unfolding input_at number_from
number_at n p zero i h = omega (arith, pow-zero n)
number_at n p (suc k) i h = number_last n 0 (input_at n k (i / n)) (i % n) ∙ rw (number_at n p k (i / n) (front_low n p k i h)) (div-add-mod' i n)

-- an input is the one of its number, which is low enough
module _ (n : ℕ) (p : 0 < n) where
  behind : (j m : ℕ) (x : List ℕ) → Over n x → input_at n (j + length x) (number_from n m x) ≡ input_at n j m ++ x
  unfolding input_at number_from all_of
  behind j m [] h = let e : j + 0 ≡ j = omega arith in rw e (sym (append-nil (input_at n j m)))
  behind j m (a ∷ x) h =
      let e : j + suc (length x) ≡ suc j + length x = omega arith in
      let l = ltb→lt a n (and_l (ltb a n) _ h) in
      rw e (behind (suc j) (m * n + a) x (and_r (ltb a n) _ h)
      ∙ rw (digits_div m l, digits_mod m l) (append_assoc (input_at n j m) (a ∷ []) x))

  number_low : (j m : ℕ) (x : List ℕ) → Over n x → m < n ^ j → number_from n m x < n ^ (j + length x)
  unfolding number_from all_of
  number_low j m [] h l = let e : j + 0 ≡ j = omega arith in rw e l
  number_low j m (a ∷ x) h l =
      let e : j + suc (length x) ≡ suc j + length x = omega arith in
      let d : m * n + a < n ^ j * n = digits_lt l (ltb→lt a n (and_l (ltb a n) _ h)) in
      rw e (number_low (suc j) (m * n + a) x (and_r (ltb a n) _ h) (rw (pow-suc n j) d))

  pub at_number : (x : List ℕ) → Over n x → (number_from n 0 x < n ^ length x) × (input_at n (length x) (number_from n 0 x) ≡ x)
  unfolding input_at
  at_number x h =
      let e : 0 + length x ≡ length x = omega arith in
      (rw e at (number_low 0 0 x h (omega (arith, pow-zero n))), rw e at (behind 0 0 x h))

  -- of two inputs of one length, behind the lower number is a lower one, and the one that comes before has the lower one
  lower_front : (l m : ℕ) (x y : List ℕ) → l < m → length x ≡ length y → Over n x → number_from n l x < number_from n m y
  unfolding number_from all_of
  lower_front l m [] [] h e o = h
  lower_front l m [] (b ∷ y) h e o = absurd (omega arith)
  lower_front l m (a ∷ x) [] h e o = absurd (omega arith)
  lower_front l m (a ∷ x) (b ∷ y) h e o =
      let q = mul-le-mul_right {m = suc l} {n = m} n (omega arith) in
      let s = ltb→lt a n (and_l (ltb a n) _ o) in
      lower_front (l * n + a) (m * n + b) x y (omega arith) (omega arith) (and_r (ltb a n) _ o)

  pub before_lower : (m : ℕ) (x y : List ℕ) → length x ≡ length y → Over n x → T (before x y) → number_from n m x < number_from n m y
  unfolding before number_from all_of
  before_lower m [] y e o t = absurd t
  before_lower m (a ∷ x) [] e o t = absurd t
  before_lower m (a ∷ x) (b ∷ y) e o t =
      go (or_cases (ltb a b) (eqb a b && before x y) t) (before_lower (m * n + a) x y (omega arith) (and_r (ltb a n) _ o))
    where
      go : T (ltb a b) ⊎ T (eqb a b && before x y) → (T (before x y) → number_from n (m * n + a) x < number_from n (m * n + a) y)
          → number_from n (m * n + a) x < number_from n (m * n + b) y
      go (inl l) f = lower_front (m * n + a) (m * n + b) x y (omega (arith, ltb→lt a b l)) (omega arith) (and_r (ltb a n) _ o)
      go (inr l) f = let q : a ≡ b = eqb→eq a b (and_l (eqb a b) _ l) in rw (← q) (f (and_r (eqb a b) _ l))
