-- Any history of steps, each of the value that the one before it left, and what is promised of it.
use Rattle.std.specs.Prelude.{◌≡◌, List, [], ◌∷◌, ℕ, Result}
use Rattle.answer.specs.declared.Error.{Error}
use Rattle.answer.specs.declared.Answer.{Answer}
use Rattle.event.specs.Events.{input_of}
use Rattle.lookahead.specs.declared.Lookahead.{Lookahead}
use Rattle.recognizer_promises.specs.Properties.{Judges}
use Rattle.kept_steps.specs.Histories.{empty_input, Step, ran}
use Rattle.kept_steps.specs.Sound.{Sound}
use Rattle.kept_input.specs.declared.KeptInput.{KeptInput}
use Rattle.kept_marks.specs.Properties.{step_left}
use Rattle.kept_input.specs.Held.{held_input}
use Rattle.kept_input.specs.Properties.{Steps, JudgesKept}

-- by these steps from a value to a value
pub data KeptRun : KeptInput → List Step → KeptInput → Type 0 where
  idle : {k : KeptInput} → KeptRun k [] k
  next : {k last : KeptInput} {t : Step} {l : List Step} (r : Result KeptInput Error) → Steps t k r → KeptRun (step_left r k) l last → KeptRun k (t ∷ l) last

-- of any history
pub record HistoriesKept : Type 0 where
  -- the last value holds what the steps make of what the first one held
  pub holds : {first last : KeptInput} {l : List Step} → KeptRun first l last → held_input last ≡ ran l (held_input first)
  -- from an empty input without marks a judgement is that of the events which the history leaves, taken afresh with the same grammar, lookahead
  -- and memory
  pub judged : {k : Lookahead} {first last : KeptInput} {l : List Step} → held_input first ≡ empty_input → KeptRun first l last
      → {words table memo table' memo' table'' memo'' : List ℕ} {r a : Answer} → JudgesKept k words last table memo r table' memo'
      → Judges k words (input_of (ran l empty_input).events) table memo a table'' memo''
      → (r ≡ a) × (table' ≡ table'') × (memo' ≡ memo'')
  pub sound : (l : List Step) → Sound (ran l empty_input)
