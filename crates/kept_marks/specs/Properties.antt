-- What a step promises of events and a length with marks, for any value that is passed in.
use Rattle.std.specs.Prelude.{◌≡◌, List, [], ℕ, length, Result, Ok, Err}
use Rattle.answer.specs.declared.Error.{Error}
use Rattle.answer.specs.declared.Answer.{Answer}
use Rattle.answer.specs.declared.Answer.TheVariants.{Refused, Passed}
use Rattle.grammar.specs.Limits.{max_tokens}
use Rattle.promises.specs.Leaving.{Leaves}
use Rattle.kept_steps.specs.Histories.{Step, step_fault, done, unless_refused, after_step}
use Rattle.kept_marks.specs.declared.Progress.{Progress}
use Rattle.kept_marks.specs.Stored.{held_by, progress_of, stored_events}

-- a value as it is read: what it holds, stored again, whatever the events are
pub record Reads (before r : Progress) : Type 0 where
  pub stored : (events : List ℕ) → length events ≡ max_tokens → r ≡ progress_of (held_by events before)

-- what a step answers, and what it leaves: what it gives, or what was there
abbrev pub step_answer : {A : Type 0} → Result A Error → Answer
step_answer (Ok x) = Passed
step_answer (Err e) = Refused e

abbrev pub step_left : {A : Type 0} → Result A Error → A → A
step_left (Ok x) before = x
step_left (Err e) before = before

-- what a step of a value that stands in lent memory gives: where it passes, what stands there afterwards
abbrev pub step_at : {A : Type 0} → Result (Unit {0}) Error → A → Result A Error
step_at (Ok u) after = Ok after
step_at (Err e) after = Err e

-- a step, of any value
pub record StepsIn (t : Step) (events : List ℕ) (before : Progress) (r : Result Progress Error) (events' : List ℕ) : Type 0 where
  -- refused or passed by the events and marks that the value holds
  pub leaves : Leaves (step_fault t (held_by events before)) Passed (step_answer r) []
  -- refused, it is as it was; else it stores what the step makes of them, and events behind the input stay as they were
  pub events_left : events' ≡ unless_refused (step_fault t (held_by events before)) (stored_events events (done t (held_by events before))) events
  pub progress_left : step_left r before ≡ unless_refused (step_fault t (held_by events before)) (progress_of (done t (held_by events before))) before
  -- so it holds what document 02's step leaves
  pub holds : held_by events' (step_left r before) ≡ after_step t (held_by events before)

-- a step that changes length and marks alone, whatever the events are
pub record Moves (t : Step) (before : Progress) (r : Result Progress Error) : Type 0 where
  pub steps : (events : List ℕ) → length events ≡ max_tokens → StepsIn t events before r events
