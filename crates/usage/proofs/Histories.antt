-- Counters that stop on the way are where the exact sums, cut at the end, are: one law for any measure, and four times at once.
use mathlib.Core.Path.{◌≡◌, refl, sym, ◌∙◌}
use mathlib.Core.List.{List, [], ◌∷◌, ◌++◌}
use Prim.Native.Nat.{ℕ, ◌+◌}
use native.Mathlib.Omega.{arith}
use lib.ListN.{length}
use Rattle.answer.specs.declared.Answer.{Answer}
use Rattle.usage.specs.declared.Usage.{Usage}
use Rattle.usage.specs.Counters.{saturated, usage_of, unused, Measure, call_of, refusal_of, acceptance_of, called_of, each_counter}
use Rattle.usage.specs.Histories.{counted_answer, record_of, total_of, summed, spent, UsageInRange, SumsCut}

same_usage : {c c' r r' a a' d d' : ℕ} → c ≡ c' → r ≡ r' → a ≡ a' → d ≡ d' → usage_of c r a d ≡ usage_of c' r' a' d'
same_usage e f g h = cc

-- what is so for any measure and number is so of each counter
each_same : (f g : Measure → ℕ → ℕ) → ((m : Measure) (n : ℕ) → f m n ≡ g m n) → (u : Usage) → each_counter f u ≡ each_counter g u
unfolding each_counter
each_same f g h u = same_usage (h call_of u.calls) (h refusal_of u.refusals) (h acceptance_of u.acceptances) (h called_of u.called)

-- from the second answer on a record is one that was cut
counted_summed : (u : Usage) (x : Answer) (l : List Answer) → summed (counted_answer u x) l ≡ summed u (x ∷ l)
unfolding summed counted_answer total_of each_counter
counted_summed u x l = each_same (λ m n. saturated (saturated (n + m x) + total_of m l)) (λ m n. saturated (n + (m x + total_of m l))) (λ m n. omega arith) u

pub once_counted : (u : Usage) (x : Answer) (l : List Answer) → record_of u (x ∷ l) ≡ summed u (x ∷ l)
unfolding record_of summed counted_answer total_of
once_counted u x [] = each_same (λ m n. saturated (n + m x)) (λ m n. saturated (n + (m x + 0))) (λ m n. omega arith) u
once_counted u x (y ∷ l) = once_counted (counted_answer u x) y l ∙ counted_summed u x (y ∷ l)

pub from_any : (u : Usage) → UsageInRange u → (l : List Answer) → record_of u l ≡ summed u l
unfolding record_of summed total_of
from_any u h [] = sym h ∙ each_same (λ m n. saturated n) (λ m n. saturated (n + 0)) (λ m n. omega arith) u
from_any u h (x ∷ l) = once_counted u x l

-- every answer is of a call
total_calls : (l : List Answer) → total_of call_of l ≡ length l
unfolding total_of
total_calls [] = refl
total_calls (x ∷ l) = omega (arith, total_calls l)

summed_unused : (l : List Answer) → summed unused l ≡ spent l
unfolding summed spent each_counter
summed_unused l = same_usage (omega (arith, total_calls l)) (omega arith) (omega arith) (omega arith)

pub from_unused : (l : List Answer) → record_of unused l ≡ spent l
unfolding each_counter
from_unused l = from_any unused refl l ∙ summed_unused l

pub sums_cut : SumsCut
sums_cut = record { from_any = from_any; once_counted = once_counted; from_unused = from_unused }

-- an answer at the end of a history is counted last
pub record_append : (u : Usage) (l : List Answer) (x : Answer) → record_of u (l ++ x ∷ []) ≡ counted_answer (record_of u l) x
unfolding record_of
record_append u [] x = refl
record_append u (y ∷ l) x = record_append (counted_answer u y) l x
