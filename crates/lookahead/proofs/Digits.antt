-- The digits of numbers that are shifted and masked.
use mathlib.Core.Path.{◌≡◌, refl, sym, ap, ◌∙◌}
use mathlib.Core.Bool.{true, false, not, ◌&&◌}
use Prim.Native.Nat.{ℕ, suc, ◌+◌, ◌-◌, ◌*◌, ◌/◌, ◌%◌, ◌^◌, ◌<◌}
use native.Mathlib.Decide.{dec_lt, ℕ_discrete}
use native.Mathlib.Nat.{mod-lt, mul_assoc}
use native.Mathlib.Omega.{arith}
use lib.Dec.{T, eqb, ltb}
use lib.Pow.{pow-add, pow_pos, shl_exact, shl-shr, field, mod-mod-pow}
use borrow.Author.Tests.{eq-eqb, ne_eqb, lt-ltb, le-ltb}
use Rattle.base.specs.Quantifiers.{any_below}
use Rattle.base.proofs.Booleans.{T_subst, both}
use Rattle.base.proofs.Quantified.{below_make, below_elim}
use Rattle.lookahead.specs.Elements.{has, width}
use Rattle.lookahead.proofs.Elements.{has_shift, has_above, has_zero, some_element, bounded}

-- one, shifted within the width, is a power of two
pub shifted : (n : ℕ) → n < width → 1 * 2 ^ n % 2 ^ width ≡ 2 ^ n
shifted n h = shl_exact 1 n width (omega arith) (omega arith) ∙ omega arith

-- a mask leaves the digits below it
pub mask_low : (n k l : ℕ) → l < k → has (n % 2 ^ k) l ≡ has n l
unfolding has
mask_low n k l h =
    let e : k ≡ suc (k - suc l) + l = omega arith in
    let a : n % 2 ^ k / 2 ^ l ≡ n / 2 ^ l % 2 ^ suc (k - suc l) = ap (λ (m : ℕ). n % 2 ^ m / 2 ^ l) e ∙ field n (suc (k - suc l)) l in
    let c : suc (k - suc l) ≡ (k - suc l) + 1 = omega arith in
    let b : n / 2 ^ l % 2 ^ suc (k - suc l) % 2 ≡ n / 2 ^ l % 2 = ap (λ (m : ℕ). n / 2 ^ l % 2 ^ m % 2) c ∙ mod-mod-pow (n / 2 ^ l) (k - suc l) 1 in
    ap (λ (m : ℕ). eqb m 1) (ap (λ (m : ℕ). m % 2) a ∙ b)

pub has_mask : (n k l : ℕ) → has (n % 2 ^ k) l ≡ (ltb l k && has n l)
has_mask n k l = go (dec_lt l k)
  where
    go : Dec (l < k) → has (n % 2 ^ k) l ≡ (ltb l k && has n l)
    go (yes h) = rw (lt-ltb l k h) (mask_low n k l h)
    go (no h) = rw (le-ltb l k (omega arith)) (has_above k (n % 2 ^ k) l (mod-lt n (pow_pos k)) (omega arith))

-- a shift up leaves no digit below it, and moves the others
pub has_under : (f k c : ℕ) → c < k → has (f * 2 ^ k) c ≡ false
unfolding has
has_under f k c h =
    let j : ℕ = k - suc c in
    let e : k ≡ suc j + c = omega arith in
    let a : f * 2 ^ k ≡ f * 2 ^ suc j * 2 ^ c =
    ap (λ (m : ℕ). f * 2 ^ m) e ∙ ap (λ (m : ℕ). f * m) (pow-add 2 (suc j) c) ∙ sym (mul_assoc f (2 ^ suc j) (2 ^ c)) in
    let b : f * 2 ^ k / 2 ^ c ≡ f * 2 ^ suc j = ap (λ (m : ℕ). m / 2 ^ c) a ∙ shl-shr (f * 2 ^ suc j) c in
    let i : suc j ≡ j + 1 = omega arith in
    let d : f * 2 ^ suc j ≡ f * 2 ^ j * 2 = ap (λ (m : ℕ). f * 2 ^ m) i ∙ ap (λ (m : ℕ). f * m) (pow-add 2 j 1) ∙ sym (mul_assoc f (2 ^ j) 2) in
    let g : f * 2 ^ k / 2 ^ c % 2 ≡ 0 = ap (λ (m : ℕ). m % 2) (b ∙ d) ∙ omega arith in
    rw g refl

pub has_over : (f k d : ℕ) → has (f * 2 ^ k) (k + d) ≡ has f d
has_over f k d = sym (has_shift (f * 2 ^ k) k d) ∙ ap (λ (m : ℕ). has m d) (shl-shr f k)

-- so a digit of a number that is shifted up is one of the number
pub moved : (f k c : ℕ) → T (has (f * 2 ^ k) c) → (d : ℕ) × (c ≡ k + d) × T (has f d)
moved f k c t = go (dec_lt c k)
  where
    go : Dec (c < k) → (d : ℕ) × (c ≡ k + d) × T (has f d)
    go (yes h) = absurd (rw (has_under f k c h) at t)
    go (no h) =
        let e : c ≡ k + (c - k) = omega arith in
        (c - k, e, rw (has_over f k (c - k)) at (T_subst (ap (has (f * 2 ^ k)) e) t))

-- some of the k digits from c on is set just where they are not 0
pub some_digit : (t c k : ℕ) → any_below k (λ q. has t (c + q)) ≡ not (eqb (t / 2 ^ c % 2 ^ k) 0)
some_digit t c k = go (ℕ_discrete (t / 2 ^ c % 2 ^ k) 0)
  where
    n : ℕ
    n = t / 2 ^ c

    digit : (q : ℕ) → q < k → has (n % 2 ^ k) q ≡ has t (c + q)
    digit q h = mask_low n k q h ∙ has_shift t c q

    go : Dec (n % 2 ^ k ≡ 0) → any_below k (λ q. has t (c + q)) ≡ not (eqb (n % 2 ^ k) 0)
    go (yes e) = rw (eq-eqb (n % 2 ^ k) 0 e) (both _ false
        (λ b. let r = below_elim k (λ q. has t (c + q)) b in T_subst (ap (λ m. has m r.0) e ∙ has_zero r.0) (T_subst (sym (digit r.0 r.1)) r.2))
        (λ f. absurd f))
    go (no e) = rw (ne_eqb (n % 2 ^ k) 0 e) (both _ true (λ b. tt) (λ _.
        let r = some_element (n % 2 ^ k) e in
        let l = bounded k (n % 2 ^ k) r.0 (mod-lt n (pow_pos k)) r.1 in
        below_make k (λ q. has t (c + q)) r.0 l (T_subst (digit r.0 l) r.1)))
