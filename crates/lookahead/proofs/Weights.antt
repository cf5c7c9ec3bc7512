-- A lookahead set's number is the sum of its elements' weights, and every choice of elements has its number.
use mathlib.Core.Path.{◌≡◌, refl, sym, ap, ap₂, ◌∙◌}
use mathlib.Core.Bool.{Bool, true, false, ◌&&◌, ◌||◌, or-false, and-true, and-false}
use Prim.Native.Nat.{ℕ, zero, suc, ◌+◌, ◌*◌, ◌^◌, ◌<◌}
use native.Mathlib.Nat.{pow-suc}
use native.Mathlib.Omega.{arith}
use native.Mathlib.Decide.{dec_lt, ℕ_discrete}
use lib.Bits.{or_shifted}
use lib.Dec.{ltb, eqb}
use borrow.Author.Tests.{lt-ltb, le-ltb, eq-eqb, ne_eqb}
use Rattle.base.specs.Quantifiers.{one}
use Rattle.lookahead.specs.Elements.{has, total_weight}
use Rattle.lookahead.proofs.Elements as elements
use Rattle.lookahead.proofs.Powers.{has_pow}

-- k weights stay below the next
pub total_bound : (k : ℕ) (p : ℕ → Bool) → total_weight k p < 2 ^ k
unfolding total_weight
total_bound zero p = omega arith
total_bound (suc k) p = go (p k) (total_bound k p)
  where
    go : (b : Bool) → total_weight k p < 2 ^ k → one b * 2 ^ k + total_weight k p < 2 ^ suc k
    go true h = omega (arith, pow-suc 2 k)
    go false h = omega (arith, pow-suc 2 k)

has_one : (b : Bool) (k l : ℕ) → has (one b * 2 ^ k) l ≡ (b && eqb l k)
has_one true k l = let e : 1 * 2 ^ k ≡ 2 ^ k = omega arith in rw e (has_pow k l)
has_one false k l = let e : 0 * 2 ^ k ≡ 0 = omega arith in rw e (elements.has_zero l)

-- the set of the numbers below k that pass a test has just these elements
pub has_total : (k : ℕ) (p : ℕ → Bool) (l : ℕ) → has (total_weight k p) l ≡ (ltb l k && p l)
unfolding total_weight
has_total zero p l = elements.has_zero l ∙ sym (rw (le-ltb l 0 (omega arith)))
has_total (suc k) p l =
    ap (λ (n : ℕ). has n l) (sym (or_shifted (one (p k)) k (total_weight k p) (total_bound k p)))
    ∙ elements.has_or (one (p k) * 2 ^ k) (total_weight k p) l
    ∙ ap₂ ◌||◌ (has_one (p k) k l) (has_total k p l)
    ∙ go (dec_lt l k) (ℕ_discrete l k)
  where
    go : Dec (l < k) → Dec (l ≡ k) → ((p k && eqb l k) || (ltb l k && p l)) ≡ (ltb l (suc k) && p l)
    go (yes h) (yes e) = absurd (omega arith)
    go (yes h) (no ne) = rw (lt-ltb l k h, ne_eqb l k ne, lt-ltb l (suc k) (omega arith), and-false (p k))
    go (no h) (yes e) = rw (le-ltb l k (omega arith), eq-eqb l k e, lt-ltb l (suc k) (omega arith), and-true (p k), or-false (p k)) (ap p (sym e))
    go (no h) (no ne) = rw (le-ltb l k (omega arith), ne_eqb l k ne, le-ltb l (suc k) (omega arith), and-false (p k))

-- a number of k digits whose elements are those that pass a test is the sum of their weights
pub total_of : (k n : ℕ) (p : ℕ → Bool) → n < 2 ^ k → ((l : ℕ) → has n l ≡ p l) → n ≡ total_weight k p
total_of k n p h f = elements.same_elements n (total_weight k p) (λ l. same l (dec_lt l k) ∙ sym (has_total k p l))
  where
    same : (l : ℕ) → Dec (l < k) → has n l ≡ (ltb l k && p l)
    same l (yes b) = rw (lt-ltb l k b) (f l)
    same l (no b) = rw (le-ltb l k (omega arith)) (elements.has_above k n l h (omega arith))

-- so a number is the sum of its elements' weights
pub weights : (k n : ℕ) → n < 2 ^ k → n ≡ total_weight k (has n)
weights k n h = total_of k n (has n) h (λ l. refl)
