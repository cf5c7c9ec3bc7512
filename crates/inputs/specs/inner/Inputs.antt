-- Each input of one length by its number, how many of them are searched, and what a search keeps.
use Rattle.std.specs.Prelude.{List, [], ◌∷◌, ◌++◌, ℕ, zero, suc, ◌+◌, ◌/◌, ◌%◌, ◌^◌, ltb}
use Rattle.base.specs.Choice.{choose}
use Rattle.inputs.specs.Inputs.{max_inputs}
use Rattle.inputs.specs.declared.Trials.{Trials}

-- k digits of a number to the base n, the first weighing most
unfoldable pub input_at : ℕ → ℕ → ℕ → List ℕ
input_at n zero i = []
input_at n (suc k) i = input_at n k (i / n) ++ i % n ∷ []

-- how many inputs there are, or one more than are searched where there are more
unfoldable pub input_count : ℕ → ℕ → ℕ
input_count n k = choose (ltb max_inputs (n ^ k)) (suc max_inputs) (n ^ k)

abbrev pub no_trials : Trials
no_trials = record { next = 0; best = 0; calls = 0 }

-- the next has been tried, and costs so many calls
abbrev pub tried_next : Trials → ℕ → Trials
tried_next t calls = record {
  next = t.next % max_inputs + 1;
  best = choose (ltb t.calls calls) t.next t.best;
  calls = choose (ltb t.calls calls) calls t.calls;
}
