-- A list in an array, and one value behind it: the array is settled by its elements.
use mathlib.Core.Path.{◌≡◌, sym, ◌∙◌}
use mathlib.Core.List.{List}
use Prim.Native.Nat.{ℕ, ◌+◌, ◌-◌, ◌≤◌, ◌<◌}
use native.Mathlib.Decide.{dec_lt}
use native.Mathlib.Omega.{arith}
use lib.ListN.{length, get_or, replicate, length-append, length-replicate, get_or-replicate, get_or-append}
use lib.Seq.{ext_get_or, get_or-append-add}
use Rattle.table.specs.inner.Layout.{padded}

module _ (n v : ℕ) (l : List ℕ) where
  pub padded_long : length l ≤ n → length (padded n v l) ≡ n
  padded_long h = omega (arith, length-append l (replicate (n - length l) v), length-replicate {A = ℕ} (n - length l) v)

  pub padded_in : (i : ℕ) → i < length l → get_or (padded n v l) i 0 ≡ get_or l i 0
  padded_in i h = get_or-append l (replicate (n - length l) v) 0 i h

  pub padded_behind : (i : ℕ) → length l ≤ i → i < n → get_or (padded n v l) i 0 ≡ v
  padded_behind i h k =
      let j : length l + (i - length l) ≡ i = omega arith in
      (rw j at (get_or-append-add l (replicate (n - length l) v) (i - length l) 0)) ∙ get_or-replicate (n - length l) (i - length l) v 0 (omega arith)

  pub padded_is : {t : List ℕ} → length t ≡ n → length l ≤ n → ((i : ℕ) → i < length l → get_or t i 0 ≡ get_or l i 0)
      → ((i : ℕ) → length l ≤ i → i < n → get_or t i 0 ≡ v) → t ≡ padded n v l
  padded_is {t} long room inside behind = ext_get_or 0 t (padded n v l) (long ∙ sym (padded_long room)) (λ i h. each i (omega arith) (dec_lt i (length l)))
    where
      each : (i : ℕ) → i < n → Dec (i < length l) → get_or t i 0 ≡ get_or (padded n v l) i 0
      each i h (yes k) = inside i k ∙ sym (padded_in i k)
      each i h (no k) = behind i (omega arith) h ∙ sym (padded_behind i (omega arith) h)
