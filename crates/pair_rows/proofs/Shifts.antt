-- The digits of numbers that are joined with themselves, moved up by several steps of one length, and of a product of which one factor has far digits alone.
use mathlib.Core.Path.{◌≡◌, sym, ap, ◌∙◌}
use mathlib.Core.Bool.{◌||◌}
use mathlib.Core.Logic.{inl, inr}
use Prim.Native.Nat.{ℕ, ◌+◌, ◌-◌, ◌*◌, ◌%◌, ◌^◌, ◌≤◌, ◌<◌}
use native.Mathlib.Decide.{dec_lt}
use native.Mathlib.Nat.{mul-add, mod-lt}
use lib.Pow.{pow_pos}
use native.Mathlib.Omega.{arith}
use lib.Bits.{bit_or}
use lib.Dec.{T}
use Rattle.base.proofs.Booleans.{T_subst, or_l, or_r, or_cases}
use Rattle.lookahead.specs.Elements.{has, width}
use Rattle.lookahead.proofs.Elements.{has_or, has_above}
use Rattle.lookahead.proofs.Digits.{has_over, moved, mask_low}

-- a digit of a number that is moved up within the width
pub up_elim : (x k l : ℕ) → T (has (x * 2 ^ k % 2 ^ width) l) → (k ≤ l) × T (has x (l - k))
up_elim x k l t = go (dec_lt l width)
  where
    go : Dec (l < width) → (k ≤ l) × T (has x (l - k))
    go (yes h) =
        let d = moved x k l (rw (mask_low (x * 2 ^ k) width l h) at t) in
        let e : d.0 ≡ l - k = omega (arith, d.1) in
        (omega (arith, d.1), T_subst (ap (has x) e) d.2)
    go (no h) = absurd (rw (has_above width (x * 2 ^ k % 2 ^ width) l (mod-lt (x * 2 ^ k) (pow_pos width)) (omega arith)) at t)

pub up_make : (x k l : ℕ) → l < width → k ≤ l → T (has x (l - k)) → T (has (x * 2 ^ k % 2 ^ width) l)
up_make x k l h i t =
    let e : k + (l - k) ≡ l = omega arith in
    rw (mask_low (x * 2 ^ k) width l h) (T_subst (ap (has (x * 2 ^ k)) e) (rw (has_over x k (l - k)) t))

-- the digits of z are those of x moved up by fewer than n steps of u places
pub record Spread (u x n z : ℕ) : Type 0 where
  pub to : (l : ℕ) → T (has z l) → (q : ℕ) × (q < n) × (u * q ≤ l) × T (has x (l - u * q))
  pub from : (l q : ℕ) → l < width → q < n → u * q ≤ l → T (has x (l - u * q)) → T (has z l)

module _ (u x : ℕ) where
  pub unmoved : Spread u x 1 x
  unmoved = record {
    to = λ l t. let e : l ≡ l - u * 0 = omega arith in (0, omega arith, omega arith, T_subst (ap (has x) e) t);
    from = λ l q h i b t. let z : q ≡ 0 = omega arith in let e : l - u * q ≡ l = ap (λ (n : ℕ). l - u * n) z ∙ omega arith in T_subst (ap (has x) e) t;
  }

  -- what is moved up by fewer than n steps, and what is by fewer than m, moved up by j more
  pub further : (n m j k : ℕ) {y z : ℕ} → u * j ≡ k → j ≤ n → n ≤ j + m → Spread u x n y → Spread u x m z
      → Spread u x (j + m) (bit_or y (z * 2 ^ k % 2 ^ width))
  further n m j k {y} {z} e h i a b = record { to = to; from = from }
    where
      moves : (q : ℕ) → u * (j + q) ≡ k + u * q
      moves q = mul-add u j q ∙ ap (λ (w : ℕ). w + u * q) e

      to : (l : ℕ) → T (has (bit_or y (z * 2 ^ k % 2 ^ width)) l) → (q : ℕ) × (q < j + m) × (u * q ≤ l) × T (has x (l - u * q))
      to l t = elim (or_cases (has y l) (has (z * 2 ^ k % 2 ^ width) l) (rw (has_or y (z * 2 ^ k % 2 ^ width) l) at t)) [
        | inl v ↦ let d = a.to l v in (d.0, omega (arith, d.1), d.2, d.3)
        | inr v ↦
            let p = up_elim z k l v in
            let d = b.to (l - k) p.1 in
            let w : (l - k) - u * d.0 ≡ l - u * (j + d.0) = omega (arith, moves d.0, p.0, d.2) in
            (j + d.0, omega (arith, d.1), omega (arith, moves d.0, p.0, d.2), T_subst (ap (has x) w) d.3)
      ]

      from : (l q : ℕ) → l < width → q < j + m → u * q ≤ l → T (has x (l - u * q)) → T (has (bit_or y (z * 2 ^ k % 2 ^ width)) l)
      from l q c d f t = rw (has_or y (z * 2 ^ k % 2 ^ width) l) (go (dec_lt q n))
        where
          go : Dec (q < n) → T (has y l || has (z * 2 ^ k % 2 ^ width) l)
          go (yes s) = or_l (has y l) _ (a.from l q c s f t)
          go (no s) =
              let p : j + (q - j) ≡ q = omega arith in
              let v : u * q ≡ k + u * (q - j) = ap (λ (w : ℕ). u * w) (sym p) ∙ moves (q - j) in
              let w : l - u * q ≡ (l - k) - u * (q - j) = omega (arith, v) in
              let r : T (has z (l - k)) = b.from (l - k) (q - j) (omega arith) (omega arith) (omega (arith, v)) (T_subst (ap (has x) w) t) in
              or_r (has y l) _ (up_make z k l c (omega (arith, v)) r)
