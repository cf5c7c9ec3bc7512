-- What is found of a grammar and then of a length, as the code finds it.
use Rattle.std.specs.Prelude.{Err, Ok, Result}
use Rattle.answer.specs.declared.Error.{Error}
use mathlib.Core.Path.{◌≡◌}
use Prim.Native.Nat.{ℕ, ◌^◌, ◌≤◌, ◌<◌}
use native.Mathlib.Omega.{arith}
use borrow.Author.Tests.{lt-ltb, le-ltb}
use Rattle.answer.specs.declared.Error.TheVariants.{InputTooLong, TooManyInputs}
use Rattle.grammar.specs.Limits.{max_tokens}
use Rattle.grammar.specs.declared.reading.Sizes.{Sizes}
use Rattle.inputs.specs.Inputs.{max_inputs}
use Rattle.inputs.specs.inner.Inputs.{input_count}
use Rattle.inputs.proofs.Counting.{count_over, count_few}
use Rattle.promises.specs.inner.Lengths.{with_length}

module _ {f : Result Sizes Error} {z : Sizes} (p : f ≡ Ok z) (k : ℕ) where
  pub length_over : max_tokens < k → Err InputTooLong ≡ with_length f k
  length_over h = rw (p, lt-ltb max_tokens k h)

  module _ (short : k ≤ max_tokens) {inputs : ℕ} (e : inputs ≡ input_count z.terminals k) where
    pub inputs_over : max_inputs < inputs → Err TooManyInputs ≡ with_length f k
    inputs_over h = rw (p, le-ltb max_tokens k short, lt-ltb max_inputs (z.terminals ^ k) (count_over z.terminals k (omega arith)))

    pub length_fits : inputs ≤ max_inputs → Ok z ≡ with_length f k
    length_fits h = rw (p, le-ltb max_tokens k short, le-ltb max_inputs (z.terminals ^ k) (count_few z.terminals k (omega arith)))
