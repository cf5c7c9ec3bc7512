-- How many inputs there are: the product of the turns so far is a power, and is not over the limit.
use mathlib.Core.Path.{◌≡◌, refl, sym, ap, ◌∙◌}
use mathlib.Core.Bool.{Bool, true, false}
use Prim.Native.Nat.{ℕ, zero, suc, ◌+◌, ◌*◌, ◌^◌, ◌≤◌, ◌<◌}
use native.Mathlib.Nat.{pow-suc, pow-le-pow_right, mul-zero}
use native.Mathlib.Numerals.{add-one}
use native.Mathlib.Omega.{arith}
use lib.Dec.{ltb}
use borrow.Author.Tests.{lt-ltb, le-ltb, ltb-true}
use Rattle.base.specs.Choice.{choose}
use Rattle.inputs.specs.Inputs.{max_inputs}
use Rattle.inputs.specs.inner.Inputs.{input_count}

pub record Counting (terminals inputs at : ℕ) : Type 0 where
  pub power : inputs ≡ terminals ^ at
  pub few : inputs ≤ max_inputs

module _ {t m at : ℕ} (c : Counting t m at) where
  next_power : m * t ≡ t ^ (at + 1)
  next_power = rw (c.power, add-one at) (sym (pow-suc t at))

  -- more tokens give no fewer inputs
  pub counted_more : {n : ℕ} → at < n → max_inputs < m * t → max_inputs + 1 ≡ input_count t n
  unfolding input_count
  counted_more {n} h l =
      let g = pow-le-pow_right (some_terminal t l) {i = at + 1} {j = n} (omega arith) in
      rw (lt-ltb max_inputs (t ^ n) (omega (arith, next_power)))
    where
      some_terminal : (s : ℕ) → max_inputs < m * s → 0 < s
      some_terminal zero q = absurd (omega (arith, mul-zero m))
      some_terminal (suc s) q = omega arith

  pub counted_all : {n : ℕ} → at ≤ n → n ≤ at → m ≡ input_count t n
  unfolding input_count
  counted_all {n} w h =
      let e : at ≡ n = omega arith in
      let p : m ≡ t ^ n = c.power ∙ ap (λ k. t ^ k) e in
      rw (le-ltb max_inputs (t ^ n) (omega (arith, c.few))) p

-- what is reported of a length, by how many inputs it has
pub count_over : (t n : ℕ) → max_inputs < input_count t n → max_inputs < t ^ n
unfolding input_count
count_over t n = go (ltb max_inputs (t ^ n)) refl
  where
    go : (b : Bool) → ltb max_inputs (t ^ n) ≡ b → max_inputs < choose b (suc max_inputs) (t ^ n) → max_inputs < t ^ n
    go true e h = ltb-true max_inputs (t ^ n) e
    go false e h = h

pub count_few : (t n : ℕ) → input_count t n ≤ max_inputs → t ^ n ≤ max_inputs
unfolding input_count
count_few t n = go (ltb max_inputs (t ^ n)) refl
  where
    go : (b : Bool) → ltb max_inputs (t ^ n) ≡ b → choose b (suc max_inputs) (t ^ n) ≤ max_inputs → t ^ n ≤ max_inputs
    go true e h = absurd (omega arith)
    go false e h = h

pub count_exact : (t n : ℕ) → t ^ n ≤ max_inputs → input_count t n ≡ t ^ n
unfolding input_count
count_exact t n h = rw (le-ltb max_inputs (t ^ n) h)
