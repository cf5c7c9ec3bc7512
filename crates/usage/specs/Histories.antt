-- What a history of answers makes of a record: counted one by one, and by exact sums that are cut only at the end; and the law that these are one.
use Rattle.std.specs.Prelude.{◌≡◌, List, [], ◌∷◌, ℕ, ◌+◌, length}
use Rattle.answer.specs.declared.Answer.{Answer}
use Rattle.usage.specs.declared.Usage.{Usage}
use Rattle.usage.specs.Counters.{saturated, usage_of, unused, Measure, refusal_of, acceptance_of, called_of, each_counter}

-- one answer more
unfoldable pub counted_answer : Usage → Answer → Usage
counted_answer u x = each_counter (λ m n. saturated (n + m x)) u

-- a history of answers, the first one first
unfoldable pub record_of : Usage → List Answer → Usage
record_of u [] = u
record_of u (x ∷ l) = record_of (counted_answer u x) l

-- the exact sum of a measure over a history
unfoldable pub total_of : Measure → List Answer → ℕ
total_of m [] = 0
total_of m (x ∷ l) = m x + total_of m l

-- each counter of a record with the history's exact sum added, and cut at the end
unfoldable pub summed : Usage → List Answer → Usage
summed u l = each_counter (λ m n. saturated (n + total_of m l)) u

-- and of the history alone: its calls, refusals and acceptances, and all that its descents called
unfoldable pub spent : List Answer → Usage
spent l = usage_of (saturated (length l)) (saturated (total_of refusal_of l)) (saturated (total_of acceptance_of l)) (saturated (total_of called_of l))

-- a record whose numbers are of 32 bits, as every one that is handed in is
abbrev pub UsageInRange : Usage → Type 0
UsageInRange u = each_counter (λ m n. saturated n) u ≡ u

-- counters that stop on the way tell what the exact sums come to, cut at the end
pub record SumsCut : Type 0 where
  -- from any record of 32-bit numbers; once an answer is counted they are such, so the second law asks for nothing
  pub from_any : (u : Usage) → UsageInRange u → (l : List Answer) → record_of u l ≡ summed u l
  pub once_counted : (u : Usage) (x : Answer) (l : List Answer) → record_of u (x ∷ l) ≡ summed u (x ∷ l)
  -- from the empty record
  pub from_unused : (l : List Answer) → record_of unused l ≡ spent l
