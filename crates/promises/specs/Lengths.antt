-- The faults of a length, all inputs of which are to be judged.
use Rattle.std.specs.Prelude.{List, [], ◌∷◌, ℕ, ◌^◌, ltb}
use Rattle.std.proofs.Math.Option.{Option}
use Rattle.answer.specs.declared.Error.{Error}
use Rattle.answer.specs.declared.Error.TheVariants.{InputTooLong, TooManyInputs}
use Rattle.answer.specs.Faults.{fault_if}
use Rattle.grammar.specs.Limits.{max_tokens}
use Rattle.inputs.specs.Inputs.{max_inputs}

-- the faults of a length n for a grammar of so many terminals: that it is too great, then that there are too many inputs of it
abbrev pub length_faults : ℕ → ℕ → List (Option Error)
length_faults terminals n =
    fault_if (ltb max_tokens n) InputTooLong
    ∷ fault_if (ltb max_inputs (terminals ^ n)) TooManyInputs
    ∷ []
