-- The digits of a product of which one factor has at most seven digits, and the other but every seventh one: a copy of the one for each digit of the other.
use mathlib.Core.Path.{◌≡◌, sym, ap, ◌∙◌}
use mathlib.Core.Bool.{Bool, true, false, ◌&&◌}
use Prim.Native.Nat.{ℕ, zero, suc, ◌+◌, ◌*◌, ◌/◌, ◌%◌, ◌^◌, ◌<◌}
use native.Mathlib.Decide.{dec_lt}
use native.Mathlib.Nat.{add-mul, mul_assoc, mul_comm}
use native.Mathlib.Omega.{arith}
use lib.Dec.{T, ltb}
use lib.Pow.{split, high, low}
use borrow.Author.Tests.{lt-ltb, le-ltb}
use Rattle.base.proofs.Booleans.{T_none}
use Rattle.base.specs.Quantifiers.{one}
use Rattle.lookahead.specs.Elements.{has}
use Rattle.lookahead.proofs.Elements.{has_shift, has_zero, lowest, same_elements}
use Rattle.lookahead.proofs.Digits.{has_mask, mask_low}

-- but every seventh digit
abbrev pub Sevenths : ℕ → Type 0
Sevenths s = (p : ℕ) → T (has s p) → p % 7 ≡ 0

first_seven : (s : ℕ) → Sevenths s → s % 2 ^ 7 ≡ one (has s 0)
first_seven s h = same_elements (s % 2 ^ 7) (s % 2 ^ 1) same ∙ lowest s
  where
    same : (l : ℕ) → has (s % 2 ^ 7) l ≡ has (s % 2 ^ 1) l
    same l = has_mask s 7 l ∙ go (dec_lt l 1) (dec_lt l 7) ∙ sym (has_mask s 1 l)
      where
        go : Dec (l < 1) → Dec (l < 7) → (ltb l 7 && has s l) ≡ (ltb l 1 && has s l)
        go (yes a) b = rw (lt-ltb l 7 (omega arith), lt-ltb l 1 a)
        go (no a) (yes b) = rw (lt-ltb l 7 b, le-ltb l 1 (omega arith)) (T_none (has s l) (λ t. omega (arith, h l t)))
        go (no a) (no b) = rw (le-ltb l 7 (omega arith), le-ltb l 1 (omega arith))

copy : (b : Bool) (f r : ℕ) → has (one b * f) r ≡ (b && has f r)
copy true f r = ap (λ (n : ℕ). has n r) (omega arith)
copy false f r = ap (λ (n : ℕ). has n r) (omega arith) ∙ has_zero r

copy_small : (b : Bool) (f : ℕ) → f < 2 ^ 7 → one b * f < 2 ^ 7
copy_small true f h = omega arith
copy_small false f h = omega arith

module _ (f : ℕ) (small : f < 2 ^ 7) where
  parts : (s : ℕ) → Sevenths s → s * f ≡ s / 2 ^ 7 * f * 2 ^ 7 + one (has s 0) * f
  parts s h =
      let e : s ≡ s / 2 ^ 7 * 2 ^ 7 + one (has s 0) = sym (split s 7) ∙ ap (λ (n : ℕ). s / 2 ^ 7 * 2 ^ 7 + n) (first_seven s h) in
      let high : s / 2 ^ 7 * 2 ^ 7 * f ≡ s / 2 ^ 7 * f * 2 ^ 7 =
      mul_assoc (s / 2 ^ 7) (2 ^ 7) f ∙ ap (λ (n : ℕ). s / 2 ^ 7 * n) (mul_comm (2 ^ 7) f) ∙ sym (mul_assoc (s / 2 ^ 7) f (2 ^ 7)) in
      ap (λ (n : ℕ). n * f) e ∙ add-mul (s / 2 ^ 7 * 2 ^ 7) (one (has s 0)) f ∙ ap (λ (n : ℕ). n + one (has s 0) * f) high

  pub copies : (q s r : ℕ) → Sevenths s → r < 7 → has (s * f) (7 * q + r) ≡ (has s (7 * q) && has f r)
  copies zero s r h i =
      let e : s * f % 2 ^ 7 ≡ one (has s 0) * f = ap (λ (n : ℕ). n % 2 ^ 7) (parts s h) ∙ low (s / 2 ^ 7 * f) 7 (copy_small (has s 0) f small) in
      let z : 7 * 0 + r ≡ r = omega arith in
      ap (has (s * f)) z ∙ sym (mask_low (s * f) 7 r i) ∙ ap (λ (n : ℕ). has n r) e ∙ copy (has s 0) f r
  copies (suc q) s r h i =
      let e : s * f / 2 ^ 7 ≡ s / 2 ^ 7 * f = ap (λ (n : ℕ). n / 2 ^ 7) (parts s h) ∙ high (s / 2 ^ 7 * f) 7 (copy_small (has s 0) f small) in
      let z : 7 * suc q + r ≡ 7 + (7 * q + r) = omega arith in
      let y : 7 + 7 * q ≡ 7 * suc q = omega arith in
      let above : Sevenths (s / 2 ^ 7) = λ p t. omega (arith, h (7 + p) (rw (has_shift s 7 p) at t)) in
      ap (has (s * f)) z ∙ sym (has_shift (s * f) 7 (7 * q + r)) ∙ ap (λ (n : ℕ). has n (7 * q + r)) e ∙ copies q (s / 2 ^ 7) r above i
      ∙ ap (λ (b : Bool). b && has f r) (has_shift s 7 (7 * q) ∙ ap (has s) y)
