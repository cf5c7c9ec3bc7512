-- Which errors an input can give, and where: what holds of each of them holds of the one that is given.
use Rattle.std.specs.Prelude.{Some}
use mathlib.Core.Bool.{Bool, true, false}
use mathlib.Core.List.{List, [], ◌∷◌}
use Prim.Native.Nat.{ℕ, suc, ◌+◌, ◌≤◌, ◌<◌}
use native.Mathlib.Omega.{arith}
use lib.Dec.{ltb}
use lib.ListN.{length}
use borrow.Author.Tests.{ltb-false}
use Rattle.answer.specs.declared.Error.{Error}
use Rattle.answer.specs.declared.Error.TheVariants.{InputTooLong, UnknownToken}
use Rattle.answer.specs.Faults.{fault_if}
use Rattle.answer.proofs.Faults.{fault_none, OfFault, of_none, of_some, of_if, EachFault}
use Rattle.base.specs.Choice.{choose}
use Rattle.event.specs.Unknown.{unknown_from, unknown_fault}
use Rattle.grammar.specs.Limits.{max_tokens}

-- the errors of an input
pub record InputErrors (P : Error → Type 0) : Type 0 where
  pub too_long : P InputTooLong
  pub unknown_token : (i : ℕ) → i < max_tokens → P (UnknownToken i)

module _ {P : Error → Type 0} (each : InputErrors P) where
  unknown_each : (n at : ℕ) (w : List ℕ) → at + length w ≤ max_tokens → OfFault P (unknown_fault (unknown_from n at w))
  unfolding unknown_from
  unknown_each n at [] h = of_none P
  unknown_each n at (a ∷ w) h = go (ltb a n) (unknown_each n (suc at) w (omega arith))
    where
      go : (b : Bool) → OfFault P (unknown_fault (unknown_from n (suc at) w)) → OfFault P (unknown_fault (choose b (unknown_from n (suc at) w) (Some at)))
      go true later = later
      go false later = of_some P (UnknownToken at) (each.unknown_token at (omega arith))

  -- where it may have so many tokens
  pub input_each : (limit n : ℕ) (input : List ℕ) → limit ≤ max_tokens
      → EachFault P (fault_if (ltb limit (length input)) InputTooLong ∷ unknown_fault (unknown_from n 0 input) ∷ [])
  input_each limit n input few = (
    of_if P (ltb limit (length input)) InputTooLong each.too_long,
    λ q. (
      unknown_each n 0 input (omega (arith, ltb-false limit (length input) (fault_none (ltb limit (length input)) InputTooLong q))),
      λ _. tt,
    ),
  )
