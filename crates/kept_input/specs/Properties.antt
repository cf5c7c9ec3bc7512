-- What a kept input promises, on one page: of each step and of a judgement, for any value that is passed in.
use Rattle.std.specs.Prelude.{◌≡◌, List, ℕ, ◌≤◌, length, replicate, Result, Ok, Err}
use Rattle.answer.specs.declared.Error.{Error}
use Rattle.answer.specs.declared.Answer.{Answer}
use Rattle.grammar.specs.Limits.{max_tokens}
use Rattle.event.specs.Events.{input_of}
use Rattle.lookahead.specs.declared.Lookahead.{Lookahead}
use Rattle.recognizer_promises.specs.Properties.{Judges}
use Rattle.kept_steps.specs.Histories.{empty_input, Step, Add, ran}
use Rattle.kept_marks.specs.declared.Progress.{Progress}
use Rattle.kept_marks.specs.Properties.{step_left, StepsIn}
use Rattle.kept_input.specs.declared.KeptInput.{KeptInput}
use Rattle.kept_input.specs.Held.{held_input, stored_input}

-- the value that a history begins with
pub record BeginsEmpty (k : KeptInput) : Type 0 where
  pub value : k ≡ stored_input (replicate max_tokens 0) empty_input
  pub holds : held_input k ≡ empty_input

-- what a step gives, but for the events
abbrev pub progress_of_step : Result KeptInput Error → Result Progress Error
progress_of_step (Ok k) = Ok k.progress
progress_of_step (Err e) = Err e

-- a step, of any value
abbrev pub Steps : (t : Step) (before : KeptInput) (r : Result KeptInput Error) → Type 0
Steps t before r = StepsIn t before.events before.progress (progress_of_step r) (step_left r before).events

-- an event added to events that stand in lent memory
abbrev pub Adds : (event : ℕ) (events : List ℕ) (before : Progress) (events' : List ℕ) (r : Result Progress Error) → Type 0
Adds event events before events' r = StepsIn (Add event) events before r events'

-- judging what is kept
pub record JudgesKept (k : Lookahead) (words : List ℕ) (kept : KeptInput) (table memo : List ℕ) (r : Answer) (table' memo' : List ℕ) : Type 0 where
  -- all that judging promises of the events that the value holds, which are never too many for it
  pub judges : Judges k words (input_of (held_input kept).events) table memo r table' memo'
  pub short : length (input_of (held_input kept).events) ≤ max_tokens
  -- whichever history from an empty input without marks left it, the judgement is that of the events which the history leaves, taken afresh
  -- with the same grammar and lent memory
  pub afresh : (history : List Step) → held_input kept ≡ ran history empty_input → (a : Answer) (table'' memo'' : List ℕ)
      → Judges k words (input_of (ran history empty_input).events) table memo a table'' memo''
      → (r ≡ a) × (table' ≡ table'') × (memo' ≡ memo'')
