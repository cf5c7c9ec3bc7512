-- Answers that differ, and faults that differ, are told apart by a number.
use mathlib.Core.Path.{◌≡◌, ap}
use mathlib.Core.Option.{Option, none, some}
use Prim.Native.Nat.{ℕ}
use native.Mathlib.Omega.{arith}
use Rattle.answer.specs.declared.Error.{Error}
use Rattle.answer.specs.declared.Answer.{Answer}
use Rattle.answer.specs.declared.Answer.TheVariants.{Refused, Passed, Rejected, Accepted}
use Rattle.answer.specs.Numbers.{coded}

-- an error's code, and numbers that are no codes
abbrev pub answer_number : Answer → ℕ
answer_number (Refused e) = (coded e).code
answer_number Passed = 1000
answer_number (Rejected c) = 1001
answer_number (Accepted c) = 1002

pub answer_number_lem : {a b : Answer} → a ≡ b → answer_number a ≡ answer_number b
answer_number_lem e = ap answer_number e

abbrev pub fault_number : Option Error → ℕ
fault_number none = 0
fault_number (some e) = (coded e).code

pub fault_number_lem : {f g : Option Error} → f ≡ g → fault_number f ≡ fault_number g
fault_number_lem e = ap fault_number e

-- an answer is a refusal or not
abbrev pub refusal_number : Answer → ℕ
refusal_number (Refused e) = 1
refusal_number Passed = 0
refusal_number (Rejected c) = 0
refusal_number (Accepted c) = 0

pub refused_ne_passed : {e : Error} → Refused e ≡ Passed → ⊥
refused_ne_passed q = omega (arith, ap refusal_number q)
