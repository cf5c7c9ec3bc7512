-- The four counters of a record, what one answer counts in each, and where a counter stops.
use Rattle.std.specs.Prelude.{ℕ, min}
use Rattle.answer.specs.declared.Answer.{Answer}
use Rattle.answer.specs.declared.Answer.TheVariants.{Refused, Passed, Rejected, Accepted}
use Rattle.answer.specs.Numbers.{numbers}
use Rattle.usage.specs.declared.Usage.{Usage}

-- the largest number of 32 bits
abbrev pub counter_limit : ℕ
counter_limit = 4294967295

abbrev pub saturated : ℕ → ℕ
saturated n = min n counter_limit

-- a record's four numbers in order
abbrev pub usage_of : ℕ → ℕ → ℕ → ℕ → Usage
usage_of c r a d = record { calls = c; refusals = r; acceptances = a; called = d }

-- the empty record
abbrev pub unused : Usage
unused = usage_of 0 0 0 0

-- what one answer adds to a counter
abbrev pub Measure : Type 0
Measure = Answer → ℕ

-- every answer is that of a call, a refusal's too
abbrev pub call_of : Measure
call_of x = 1

abbrev pub refusal_of : Measure
refusal_of (Refused e) = 1
refusal_of Passed = 0
refusal_of (Rejected c) = 0
refusal_of (Accepted c) = 0

abbrev pub acceptance_of : Measure
acceptance_of (Refused e) = 0
acceptance_of Passed = 0
acceptance_of (Rejected c) = 0
acceptance_of (Accepted c) = 1

-- the calls that the descent made: the answer's count, 0 where it is none of a descent
abbrev pub called_of : Measure
called_of x = (numbers x).count

-- the four at once: each counter, by what its measure and its number give
unfoldable pub each_counter : (Measure → ℕ → ℕ) → Usage → Usage
each_counter f u = usage_of (f call_of u.calls) (f refusal_of u.refusals) (f acceptance_of u.acceptances) (f called_of u.called)
