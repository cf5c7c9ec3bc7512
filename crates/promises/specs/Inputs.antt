-- The faults of an input of at most so many tokens.
use Rattle.std.specs.Prelude.{List, [], ◌∷◌, ℕ, ltb, length}
use Rattle.std.proofs.Math.Option.{Option}
use Rattle.answer.specs.declared.Error.{Error}
use Rattle.answer.specs.declared.Error.TheVariants.{InputTooLong}
use Rattle.answer.specs.Faults.{fault_if}
use Rattle.event.specs.Unknown.{unknown_from, unknown_fault}

-- the faults of an input for a grammar of n terminals: its length, then its tokens
abbrev pub input_faults_to : ℕ → ℕ → List ℕ → List (Option Error)
input_faults_to most n input =
    fault_if (ltb most (length input)) InputTooLong
    ∷ unknown_fault (unknown_from n 0 input)
    ∷ []
