-- The numbers that documents 01 and 02 give to each answer: one row for each case.
use Rattle.std.specs.Prelude.{ℕ, ◌+◌, ◌*◌}
use Rattle.answer.specs.declared.Error.{Error}
use Rattle.answer.specs.declared.Error.TheVariants.{TableTooShort, MemoTooShort, Length, Heading, UnexpectedWord, OutOfRange, TooManyRules}
use Rattle.answer.specs.declared.Error.TheVariants.{LeftRecursive, Unproductive, Conflict, ConflictOfTwo, InputTooLong, UnknownToken}
use Rattle.answer.specs.declared.Error.TheVariants.{SpansTooShort, TreeTooShort, TableOfTwoTooShort, BufferTooShort, UnknownClient, QuotaReached}
use Rattle.answer.specs.declared.Error.TheVariants.{TooManyTerminals, UnknownMark, MarkNotSet, InputFull, TooManyInputs}
use Rattle.answer.specs.declared.Answer.{Answer}
use Rattle.answer.specs.declared.Answer.TheVariants.{Refused, Passed, Rejected, Accepted}

-- an error's code and position (document 01: number and place of a refusal)
pub record Coded : Type 0 where
  pub code : ℕ
  pub position : ℕ

abbrev row : ℕ → ℕ → Coded
row c p = record { code = c; position = p }

abbrev pub coded : Error → Coded
coded TableTooShort = row 1 0
coded MemoTooShort = row 2 0
coded Length = row 3 0
coded Heading = row 4 0
coded (UnexpectedWord at) = row 5 at
coded (OutOfRange at) = row 6 at
coded (TooManyRules at) = row 7 at
coded (LeftRecursive nonterminal) = row 8 nonterminal
coded (Unproductive nonterminal) = row 13 nonterminal
coded (Conflict nonterminal column) = row 9 (nonterminal * 32 + column)
coded (ConflictOfTwo nonterminal column) = row 9 (nonterminal * 64 + column)
coded InputTooLong = row 10 0
coded (UnknownToken at) = row 11 at
coded SpansTooShort = row 12 0
coded TreeTooShort = row 14 0
coded TableOfTwoTooShort = row 17 0
coded BufferTooShort = row 23 0
coded UnknownClient = row 15 0
coded QuotaReached = row 16 0
coded TooManyTerminals = row 18 0
coded UnknownMark = row 19 0
coded MarkNotSet = row 20 0
coded InputFull = row 21 0
coded TooManyInputs = row 22 0

pub data Verdict : Type 0 where
  refused passed rejected accepted : Verdict

-- all that an answer tells (document 01: verdict, number, place, count and far)
pub record Numbers : Type 0 where
  pub verdict : Verdict
  pub code : ℕ
  pub position : ℕ
  pub count : ℕ
  pub farthest : ℕ

abbrev pub answered : Verdict → ℕ → ℕ → ℕ → ℕ → Numbers
answered v n p c f = record { verdict = v; code = n; position = p; count = c; farthest = f }

abbrev pub numbers : Answer → Numbers
numbers (Refused e) = answered refused (coded e).code (coded e).position 0 0
numbers Passed = answered passed 0 0 0 0
numbers (Rejected c) = answered rejected 0 0 c.count c.farthest
numbers (Accepted c) = answered accepted 0 0 c.count c.farthest
