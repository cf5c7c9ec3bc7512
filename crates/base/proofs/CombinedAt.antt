-- The combinations of a list with the numbers below n stand in rows of n: which one is where.
use mathlib.Core.List.{List, [], ◌∷◌, map}
use mathlib.Core.Path.{◌≡◌, ap, ◌∙◌}
use Prim.Native.Nat.{ℕ, zero, suc, ◌+◌, ◌*◌, ◌<◌}
use native.Mathlib.Nat.{zero-add}
use native.Mathlib.Omega.{arith}
use lib.ListN.{length, get_or, length-map, get_or-append}
use lib.Seq.{get_or-append-add}
use Rattle.base.specs.FiniteSets.{numbers_from, numbers_below, combine}
use Rattle.base.proofs.FiniteSets.{numbers_length}

map_at : {Z : Type 0} (g : ℕ → Z) (a n i : ℕ) (z : Z) → i < n → get_or (map g (numbers_from a n)) i z ≡ g (a + i)
unfolding numbers_from
map_at g a zero i z h = absurd (omega arith)
map_at g a (suc n) zero z h = let e : a ≡ a + 0 = omega arith in ap g e
map_at g a (suc n) (suc i) z h = let e : suc a + i ≡ a + suc i = omega arith in map_at g (suc a) n i z (omega arith) ∙ ap g e

from_at : (a n i z : ℕ) → i < n → get_or (numbers_from a n) i z ≡ a + i
unfolding numbers_from
from_at a zero i z h = absurd (omega arith)
from_at a (suc n) zero z h = omega arith
from_at a (suc n) (suc i) z h = omega (arith, from_at (suc a) n i z (omega arith))

pub numbers_at : (n i z : ℕ) → i < n → get_or (numbers_below n) i z ≡ i
unfolding numbers_below
numbers_at n i z h = omega (arith, from_at 0 n i z h)

module _ {X Z : Type 0} (f : X → ℕ → Z) (n : ℕ) where
  row_length : (x : X) → length (map (f x) (numbers_below n)) ≡ n
  row_length x = length-map (numbers_below n) (f x) ∙ numbers_length n

  pub combine_at : (xs : List X) (A i : ℕ) (z : Z) (d : X) → A < length xs → i < n → get_or (combine f xs (numbers_below n)) (A * n + i) z ≡ f (get_or xs A d) i
  unfolding combine numbers_below
  combine_at [] A i z d h l = absurd (omega arith)
  combine_at (x ∷ xs) zero i z d h l =
      let e : 0 * n + i ≡ i = omega arith in
      rw e (get_or-append (map (f x) (numbers_below n)) _ z i (omega (arith, row_length x)) ∙ map_at (f x) 0 n i z l ∙ ap (f x) (zero-add i))
  combine_at (x ∷ xs) (suc A) i z d h l =
      let e : suc A * n + i ≡ length (map (f x) (numbers_below n)) + (A * n + i) = omega (arith, row_length x) in
      rw e (get_or-append-add (map (f x) (numbers_below n)) (combine f xs (numbers_below n)) (A * n + i) z ∙ combine_at xs A i z d (omega arith) l)
