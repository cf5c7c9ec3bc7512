-- What fits into how many digits: the elements into a set's number, and joins and meets of numbers below a power of two.
use Prim.Native.Nat.{ℕ, ◌^◌, ◌<◌}
use native.Mathlib.Omega.{arith}
use lib.Bits.{or_lt}
use Rattle.lookahead.specs.inner.Operations.{join, meet}
use Rattle.lookahead.specs.declared.Lookahead.{Lookahead}
use Rattle.lookahead.specs.declared.Lookahead.TheVariants.{One, Two}
use Rattle.lookahead.specs.Lookaheads.{elements}
use Rattle.lookahead.specs.Elements.{width}
use Rattle.lookahead.proofs.Order.{subset_le, meet_left}

module _ (k x y : ℕ) where
  pub join_bound : x < 2 ^ k → y < 2 ^ k → join x y < 2 ^ k
  unfolding join
  join_bound h i = or_lt k x y h i

  pub meet_bound : x < 2 ^ k → meet x y < 2 ^ k
  meet_bound h = omega (arith, subset_le (meet x y) x (meet_left x y))

-- a set's number has a digit for each element
pub elements_fit : (k : Lookahead) → elements k < width
elements_fit One = omega arith
elements_fit Two = omega arith
