-- What is found of lent memory, of a grammar and then of an input, as the code finds it.
use Rattle.std.specs.Prelude.{Err, Ok, Result, List, ℕ, ltb}
use Rattle.std.proofs.Math.Option.{Option, none, some}
use Rattle.answer.specs.declared.Error.{Error}
use Rattle.answer.specs.Faults.{first_fault}
use Rattle.base.specs.Choice.{choose}
use Rattle.grammar.specs.declared.reading.Sizes.{Sizes}
use Rattle.promises.specs.Inputs.{input_faults_to}

-- what is found of a grammar, and then by the faults that are looked for behind it, which go by its number of terminals
abbrev pub passed_unless : Option Error → Sizes → Result Sizes Error
passed_unless none z = Ok z
passed_unless (some e) z = Err e

abbrev pub with_faults : Result Sizes Error → (ℕ → List (Option Error)) → Result Sizes Error
with_faults (Err e) faults = Err e
with_faults (Ok z) faults = passed_unless (first_fault (faults z.terminals)) z

-- lent memory that is shorter than the least is found before anything else
abbrev pub with_room : ℕ → ℕ → Error → Result Sizes Error → Result Sizes Error
with_room lent least e f = choose (ltb lent least) (Err e) f

abbrev pub with_input_to : ℕ → Result Sizes Error → List ℕ → Result Sizes Error
with_input_to most f input = with_faults f (λ n. input_faults_to most n input)
