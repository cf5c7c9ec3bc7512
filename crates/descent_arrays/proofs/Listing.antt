-- A list with the values of a function, as many as it is long, is the list that is written out from it.
use mathlib.Core.Path.{◌≡◌, sym, ◌∙◌}
use mathlib.Core.List.{List}
use Prim.Native.Nat.{ℕ, ◌<◌}
use native.Mathlib.Omega.{arith}
use lib.ListN.{length, get_or}
use lib.Seq.{ext_get_or}
use Rattle.base.specs.Lists.{listed}
use Rattle.base.proofs.Lists.{listed_long, listed_at}

pub listed_by : (n : ℕ) (f : ℕ → ℕ) (l : List ℕ) → length l ≡ n → ((i : ℕ) → i < n → get_or l i 0 ≡ f i) → l ≡ listed n f
listed_by n f l e h =
    ext_get_or 0 l (listed n f) (e ∙ sym (listed_long n f))
    (λ i b. let below : i < n = omega arith in h i below ∙ sym (listed_at n f i below))
