-- The elements of numbers, digit by digit, and that a number is settled by its elements.
use mathlib.Core.Path.{◌≡◌, refl, sym, ap, ◌∙◌}
use mathlib.Core.Bool.{Bool, true, false, ◌&&◌, ◌||◌}
use Prim.Native.Nat.{ℕ, zero, suc, ◌+◌, ◌/◌, ◌%◌, ◌^◌, ◌≤◌, ◌<◌}
use native.Mathlib.Nat.{div-eq_of_lt, lt_of_lt_of_le, div-lt_iff_lt-mul}
use native.Mathlib.Omega.{arith}
use native.Mathlib.Numerals.{one-add}
use native.Mathlib.Decide.{ℕ_discrete, dec_lt}
use lib.Arith.{bin_ind}
use lib.Bits.{bit_and, bit_or, and_shr, or_shr, and_mod, or_mod}
use lib.Dec.{T, eqb}
use lib.Pow.{shr-shr, pow_mono, pow_pos}
use borrow.Author.Tests.{eq-eqb, ne_eqb}
use Rattle.base.specs.Quantifiers.{one}
use Rattle.lookahead.specs.Elements.{has}
use Rattle.base.proofs.Booleans.{true_T}

-- one digit
digits : (x y : ℕ) → x < 2 → y < 2 → (eqb (bit_or x y) 1 ≡ (eqb x 1 || eqb y 1)) × (eqb (bit_and x y) 1 ≡ (eqb x 1 && eqb y 1))
digits zero zero h k = (refl, refl)
digits zero (suc zero) h k = (refl, refl)
digits zero (suc (suc y)) h k = absurd (omega arith)
digits (suc zero) zero h k = (refl, refl)
digits (suc zero) (suc zero) h k = (refl, refl)
digits (suc zero) (suc (suc y)) h k = absurd (omega arith)
digits (suc (suc x)) y h k = absurd (omega arith)

-- the elements of a disjunction and of a conjunction, digit by digit
pub has_or : (x y l : ℕ) → has (bit_or x y) l ≡ (has x l || has y l)
unfolding has
has_or x y l =
    ap (λ (n : ℕ). eqb (n % 2) 1) (or_shr x y l)
    ∙ ap (λ (n : ℕ). eqb n 1) (or_mod (x / 2 ^ l) (y / 2 ^ l) 1)
    ∙ (digits (x / 2 ^ l % 2) (y / 2 ^ l % 2) (omega arith) (omega arith)).0

pub has_and : (x y l : ℕ) → has (bit_and x y) l ≡ (has x l && has y l)
unfolding has
has_and x y l =
    ap (λ (n : ℕ). eqb (n % 2) 1) (and_shr x y l)
    ∙ ap (λ (n : ℕ). eqb n 1) (and_mod (x / 2 ^ l) (y / 2 ^ l) 1)
    ∙ (digits (x / 2 ^ l % 2) (y / 2 ^ l % 2) (omega arith) (omega arith)).1

-- a number of k digits has no elements from k on
pub has_above : (k n l : ℕ) → n < 2 ^ k → k ≤ l → has n l ≡ false
unfolding has
has_above k n l h b = let q : n / 2 ^ l ≡ 0 = div-eq_of_lt (lt_of_lt_of_le h (pow_mono b)) in rw q

pub has_zero : (l : ℕ) → has 0 l ≡ false
has_zero l = has_above 0 0 l (omega arith) (omega arith)

-- an element weighs no more than the number
pub has_weight : (n l : ℕ) → T (has n l) → 2 ^ l ≤ n
has_weight n l t = go (dec_lt n (2 ^ l))
  where
    go : Dec (n < 2 ^ l) → 2 ^ l ≤ n
    go (yes h) = absurd (rw (has_above l n l h (omega arith)) at t)
    go (no h) = omega arith

-- the lowest digit, and the digits above it
pub has_suc : (n l : ℕ) → has n (suc l) ≡ has (n / 2) l
unfolding has
has_suc n l = ap (λ (x : ℕ). eqb (x % 2) 1) (ap (λ (k : ℕ). n / 2 ^ k) (sym (one-add l)) ∙ sym (shr-shr n 1 l))

pub lowest : (n : ℕ) → n % 2 ≡ one (has n 0)
unfolding has
lowest n = go (ℕ_discrete (n % 2) 1)
  where
    go : Dec (n % 2 ≡ 1) → n % 2 ≡ one (eqb (n / 1 % 2) 1)
    go (yes e) = rw (eq-eqb (n / 1 % 2) 1 (omega arith)) e
    go (no ne) = rw (ne_eqb (n / 1 % 2) 1 (λ z. omega arith)) (omega arith)

-- a number that is not 0 has an element
pub some_element : (n : ℕ) → (n ≡ 0 → ⊥) → (l : ℕ) × T (has n l)
some_element = bin_ind (λ (n : ℕ). (n ≡ 0 → ⊥) → (l : ℕ) × T (has n l)) (λ ne. absurd (ne refl)) step
  where
    step : (n : ℕ) → ((n / 2 ≡ 0 → ⊥) → (l : ℕ) × T (has (n / 2) l)) → (n ≡ 0 → ⊥) → (l : ℕ) × T (has n l)
    step n ih ne = go (has n 0) refl
      where
        go : (b : Bool) → has n 0 ≡ b → (l : ℕ) × T (has n l)
        go true e = (0, true_T _ e)
        go false e = let z = lowest n in let even : n % 2 ≡ 0 = rw e at z in let r = ih (λ h. ne (omega arith)) in (suc r.0, rw (has_suc n r.0) r.1)

-- numbers with the same elements are equal
pub same_elements : (x y : ℕ) → ((l : ℕ) → has x l ≡ has y l) → x ≡ y
same_elements = bin_ind (λ (x : ℕ). (y : ℕ) → ((l : ℕ) → has x l ≡ has y l) → x ≡ y) none step
  where
    none : (y : ℕ) → ((l : ℕ) → has 0 l ≡ has y l) → 0 ≡ y
    none y h = go (ℕ_discrete 0 y)
      where
        go : Dec (0 ≡ y) → 0 ≡ y
        go (yes e) = e
        go (no ne) = let r = some_element y (λ e. ne (sym e)) in absurd (rw (sym (h r.0), has_zero r.0) at r.1)

    step : (x : ℕ) → ((y : ℕ) → ((l : ℕ) → has (x / 2) l ≡ has y l) → x / 2 ≡ y) → (y : ℕ) → ((l : ℕ) → has x l ≡ has y l) → x ≡ y
    step x ih y h =
        let above : x / 2 ≡ y / 2 = ih (y / 2) (λ l. sym (has_suc x l) ∙ h (suc l) ∙ has_suc y l) in
        let below : x % 2 ≡ y % 2 = lowest x ∙ ap one (h 0) ∙ sym (lowest y) in omega arith

-- a number has at most k digits just where its elements are below k
pub bounded : (k n l : ℕ) → n < 2 ^ k → T (has n l) → l < k
bounded k n l h t = go (dec_lt l k)
  where
    go : Dec (l < k) → l < k
    go (yes b) = b
    go (no b) = absurd (rw (has_above k n l h (omega arith)) at t)

pub has_shift : (n k l : ℕ) → has (n / 2 ^ k) l ≡ has n (k + l)
unfolding has
has_shift n k l = ap (λ (m : ℕ). eqb (m % 2) 1) (shr-shr n k l)

pub bound : (k n : ℕ) → ((l : ℕ) → T (has n l) → l < k) → n < 2 ^ k
bound k n h = go (ℕ_discrete (n / 2 ^ k) 0)
  where
    go : Dec (n / 2 ^ k ≡ 0) → n < 2 ^ k
    go (yes e) = omega (arith, (div-lt_iff_lt-mul {x = n} {y = 1} (pow_pos k)).0 (omega arith))
    go (no ne) = let r = some_element (n / 2 ^ k) ne in let b = h (k + r.0) (rw (has_shift n k r.0) at r.1) in absurd (omega arith)
