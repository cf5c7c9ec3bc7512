-- The faults that a call looks for, as a list in their order: the first that holds decides.
use Rattle.std.specs.Prelude.{Bool, true, false, List, [], ◌∷◌}
use Rattle.std.proofs.Math.Option.{Option, none, some}
use Rattle.answer.specs.declared.Error.{Error}
use Rattle.answer.specs.declared.Answer.{Answer}
use Rattle.answer.specs.declared.Answer.TheVariants.{Refused}
use Rattle.answer.specs.Numbers.{refused, Numbers, coded, answered}

-- a row: an error where a test holds
abbrev pub fault_if : Bool → Error → Option Error
fault_if true e = some e
fault_if false e = none

-- the first row that holds
abbrev pub first_fault : List (Option Error) → Option Error
first_fault [] = none
first_fault (none ∷ l) = first_fault l
first_fault (some e ∷ l) = some e

-- an answer, unless there is a fault
abbrev pub refused_or : Option Error → Answer → Answer
refused_or (some e) a = Refused e
refused_or none a = a

-- and what is reported: of a refusal its code and position, with count and farthest place 0
abbrev pub told_or : Option Error → Numbers → Numbers
told_or (some e) n = answered refused (coded e).code (coded e).position 0 0
told_or none n = n
