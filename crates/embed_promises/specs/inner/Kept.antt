-- How the numbers of a kept input in the caller's memory are read and written.
use Rattle.std.specs.Prelude.{◌≡◌, List, ℕ, Result, Ok, Err}
use Rattle.answer.specs.declared.Error.{Error}
use Rattle.answer.specs.Numbers.{numbers}
use Rattle.kept_marks.specs.declared.Progress.{Progress}
use Rattle.kept_marks.specs.Properties.{step_answer}
use Rattle.embed_promises.specs.Packing.{packed}
use Rattle.embed_promises.specs.inner.Packing.{cut}
use Rattle.embed_promises.specs.Kept.{state_of, progress_in}

pub record StateRead (state : List ℕ) (p : Progress) : Type 0 where
  pub read : p ≡ progress_in state
  pub whole : state_of p ≡ state

-- the state that a step leaves: where it passes what it gives, else what was there
abbrev pub state_after : Result Progress Error → List ℕ → List ℕ
state_after (Ok next) state = state_of next
state_after (Err e) state = state

pub record WrittenBack (step : Result Progress Error) (state : List ℕ) (r : ℕ) (state' : List ℕ) : Type 0 where
  pub packs : r ≡ packed (cut (numbers (step_answer step)))
  pub left : state' ≡ state_after step state
