-- The lowest number that passes a test, looked for from 0 on.
use Rattle.std.specs.Prelude.{None, Some}
use mathlib.Core.Path.{◌≡◌, refl, sym, ap}
use mathlib.Core.Bool.{Bool, true}
use Prim.Native.Nat.{ℕ, zero, suc, ◌≤◌, ◌<◌}
use native.Mathlib.Omega.{arith}
use Rattle.base.specs.Quantifiers.{lowest}
use Rattle.base.proofs.Booleans.{true_T}
use Rattle.base.proofs.Quantified.{NoneBelow, below_cong, lowest_some, lowest_none}
use Rattle.families.specs.inner.Flaws.{lowest_of}

module _ {n : ℕ} (p : ℕ → Bool) {m : ℕ} where
  pub lowest_found : m < n → NoneBelow m p → p m ≡ true → Some m ≡ lowest_of (lowest n p)
  lowest_found l h e = ap lowest_of (sym ((lowest_some n p m).1 (l, true_T (p m) e, h)))

  pub lowest_absent : n ≤ m → NoneBelow m p → None ≡ lowest_of (lowest n p)
  lowest_absent l h = ap lowest_of (sym ((lowest_none n p).1 (λ k b. h k (omega arith))))

-- tests that agree have the same lowest
pub lowest_cong : (n : ℕ) (p q : ℕ → Bool) → ((m : ℕ) → m < n → p m ≡ q m) → lowest n p ≡ lowest n q
unfolding lowest
lowest_cong zero p q h = refl
lowest_cong (suc n) p q h =
    let a = below_cong n p q (λ m l. h m (omega arith)) in
    let b = lowest_cong n p q (λ m l. h m (omega arith)) in
    let c = h n (omega arith) in
    rw (a, b, c)
