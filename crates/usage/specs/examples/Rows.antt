-- Worked histories: a day of four answers, and counters that reach their end.
use Rattle.std.specs.Prelude.{◌≡◌, List, [], ◌∷◌}
use Rattle.answer.specs.declared.Answer.{Answer}
use Rattle.answer.specs.declared.Answer.TheVariants.{Refused, Passed, Rejected, Accepted}
use Rattle.answer.specs.declared.Error.TheVariants.{Heading}
use Rattle.usage.specs.Counters.{usage_of, unused}
use Rattle.usage.specs.Histories.{record_of}

-- accepted with 2 calls, refused, rejected with 9 calls, and a check that passed
abbrev pub day : List Answer
day = Accepted (record { count = 2; farthest = 1 }) ∷ Refused Heading ∷ Rejected (record { count = 9; farthest = 3 }) ∷ Passed ∷ []

pub record Worked : Type 0 where
  pub from_unused : record_of unused day ≡ usage_of 4 1 1 11
  -- a counter stops at its last number, and one that has stopped stays
  pub at_the_end : record_of (usage_of 4294967291 4294967295 4294967294 4294967285) day ≡ usage_of 4294967295 4294967295 4294967295 4294967295
  -- one short of it goes on
  pub before_the_end : record_of (usage_of 4294967290 4294967293 4294967293 4294967283) day ≡ usage_of 4294967294 4294967294 4294967294 4294967294
