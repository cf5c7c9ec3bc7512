-- Inputs in letter order, how many there are, and the first of those that cost the most, by computation.
use mathlib.Core.Path.{◌≡◌, refl}
use mathlib.Core.Bool.{true}
use mathlib.Core.List.{List, [], ◌∷◌}
use Prim.Native.Nat.{ℕ, ◌+◌, ◌%◌}
use lib.ListN.{get_or}
use Rattle.base.specs.FiniteSets.{numbers_from, numbers_below, combine}
use Rattle.inputs.specs.Inputs.{inputs, before}
use Rattle.inputs.specs.inner.Inputs.{input_at, input_count}
use Rattle.inputs.specs.Costliest.{costliest_from, costliest}

unfoldable inputs_compute : Unit {0}
unfolding numbers_from numbers_below combine inputs input_at input_count before costliest_from costliest
inputs_compute = tt

-- the first token weighs most
pairs : inputs 2 2 ≡ (0 ∷ 0 ∷ []) ∷ (0 ∷ 1 ∷ []) ∷ (1 ∷ 0 ∷ []) ∷ (1 ∷ 1 ∷ []) ∷ []
unfolding inputs_compute
pairs = refl

-- of length 0 there is the empty input
nothing : inputs 7 0 ≡ [] ∷ []
unfolding inputs_compute
nothing = refl

sixth : input_at 2 4 6 ≡ 0 ∷ 1 ∷ 1 ∷ 0 ∷ []
unfolding inputs_compute
sixth = refl

lower_first : before (0 ∷ 1 ∷ 1 ∷ []) (1 ∷ 0 ∷ 0 ∷ []) ≡ true
unfolding inputs_compute
lower_first = refl

-- 4,096 are searched, and more are not
abbrev counts : List ℕ
counts =
    input_count 2 12
    ∷ input_count 16 3
    ∷ input_count 2 13
    ∷ input_count 17 3
    ∷ input_count 24 0
    ∷ input_count 1 500
    ∷ []

counted : counts ≡ 4096 ∷ 4096 ∷ 4097 ∷ 4097 ∷ 1 ∷ 1 ∷ []
unfolding inputs_compute
counted = refl

-- where several cost as much the first is taken: here the cost is whether the tokens' sum is odd
first_of_a_tie : costliest (λ x. (get_or x 0 0 + get_or x 1 0) % 2) 2 2 ≡ 0 ∷ 1 ∷ []
unfolding inputs_compute
first_of_a_tie = refl
