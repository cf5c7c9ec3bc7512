-- The elements of powers of two, of the numbers just below them, and of what is left when one is taken away.
use mathlib.Core.Path.{◌≡◌, refl, sym, ap, ◌∙◌}
use mathlib.Core.Bool.{true, false, not, ◌&&◌, and-true, and-false}
use Prim.Native.Nat.{ℕ, zero, suc, ◌-◌, ◌/◌, ◌%◌, ◌^◌}
use native.Mathlib.Nat.{pow-suc}
use native.Mathlib.Omega.{arith}
use lib.Dec.{eqb, ltb, leb-suc-suc, eqb-suc-suc, eqb-zero-suc, eqb-suc-zero}
use lib.Pow.{pow_pos}
use borrow.Author.Tests.{eq-eqb, ne_eqb, lt-ltb, le-ltb}
use Rattle.base.specs.Quantifiers.{one}
use Rattle.lookahead.specs.Elements.{has}
use Rattle.base.proofs.Booleans.{true_T}
use Rattle.lookahead.proofs.Elements.{has_zero, has_weight, has_suc, lowest}

-- a power of two has one element
half_pow : (l : ℕ) → 2 ^ suc l / 2 ≡ 2 ^ l
half_pow l = let e = pow-suc 2 l in omega arith

pub has_pow : (a l : ℕ) → has (2 ^ a) l ≡ eqb l a
unfolding has
has_pow zero zero = refl
has_pow zero (suc l) = has_suc 1 l ∙ has_zero l ∙ sym (eqb-suc-zero l)
has_pow (suc a) zero = ne_eqb (2 ^ suc a / 1 % 2) 1 (λ e. let p = pow-suc 2 a in omega arith) ∙ sym (eqb-zero-suc a)
has_pow (suc a) (suc l) = has_suc (2 ^ suc a) l ∙ ap (λ (x : ℕ). has x l) (half_pow a) ∙ has_pow a l ∙ sym (eqb-suc-suc l a)

-- a power of two less one has the elements below the power's
pub has_ones : (k l : ℕ) → has (2 ^ k - 1) l ≡ ltb l k
unfolding has
has_ones zero l = has_zero l ∙ sym (le-ltb l 0 (omega arith))
has_ones (suc k) zero =
    let e = pow-suc 2 k in
    let p = pow_pos k in eq-eqb ((2 ^ suc k - 1) / 1 % 2) 1 (omega arith) ∙ sym (lt-ltb 0 (suc k) (omega arith))
has_ones (suc k) (suc l) =
    let e = pow-suc 2 k in
    let p = pow_pos k in
    let h : (2 ^ suc k - 1) / 2 ≡ 2 ^ k - 1 = omega arith in
    has_suc (2 ^ suc k - 1) l ∙ ap (λ (n : ℕ). has n l) h ∙ has_ones k l ∙ sym (leb-suc-suc (suc l) k)

same_lowest : (m n : ℕ) → m % 2 ≡ n % 2 → has m 0 ≡ has n 0
unfolding has
same_lowest m n e = let d : m / 1 % 2 ≡ n / 1 % 2 = omega arith in rw d

even : (n : ℕ) → n % 2 ≡ 0 → has n 0 ≡ false
unfolding has
even n e = ne_eqb (n / 1 % 2) 1 (λ z. omega arith)

-- to take an element's weight away takes the element out
pub has_without : (k n l : ℕ) → has n k ≡ true → has (n - 2 ^ k) l ≡ (has n l && not (eqb l k))
has_without zero n zero h = let odd : n % 2 ≡ 1 = lowest n ∙ ap one h in even (n - 1) (omega arith) ∙ sym (and-false (has n 0))
has_without zero n (suc l) h =
    let odd : n % 2 ≡ 1 = lowest n ∙ ap one h in
    let half : (n - 1) / 2 ≡ n / 2 = omega arith in
    has_suc (n - 1) l ∙ ap (λ (m : ℕ). has m l) half ∙ sym (has_suc n l) ∙ sym (rw (eqb-suc-zero l) (and-true (has n (suc l))))
has_without (suc k) n zero h =
    let p = pow-suc 2 k in
    let w = has_weight n (suc k) (true_T _ h) in
    same_lowest (n - 2 ^ suc k) n (omega arith) ∙ sym (rw (eqb-zero-suc k) (and-true (has n 0)))
has_without (suc k) n (suc l) h =
    let p = pow-suc 2 k in
    let half : (n - 2 ^ suc k) / 2 ≡ n / 2 - 2 ^ k = omega arith in
    has_suc (n - 2 ^ suc k) l ∙ ap (λ (m : ℕ). has m l) half ∙ has_without k (n / 2) l (sym (has_suc n k) ∙ h)
    ∙ sym (rw (has_suc n l, eqb-suc-suc l k))
