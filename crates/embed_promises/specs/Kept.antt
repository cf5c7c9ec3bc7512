-- What the exported calls on a kept input promise: what stands in the caller's memory is a value of it, and each call is the library's on that value.
use Rattle.std.specs.Prelude.{◌≡◌, List, ◌∷◌, ℕ, length, get_or, drop, Result, Err}
use Rattle.answer.specs.declared.Answer.{Answer}
use Rattle.answer.specs.declared.Error.{Error}
use Rattle.grammar.specs.Limits.{max_tokens}
use Rattle.lookahead.specs.declared.Lookahead.{Lookahead}
use Rattle.kept_marks.specs.declared.Progress.{Progress}
use Rattle.kept_input.specs.declared.KeptInput.{KeptInput}
use Rattle.kept_marks.specs.Properties.{step_answer, step_left}
use Rattle.kept_steps.specs.Histories.{Step, Add}
use Rattle.kept_input.specs.Held.{kept_input}
use Rattle.kept_input.specs.Properties.{Steps, JudgesKept}
use Rattle.embed_promises.specs.Packing.{Packs}
use Rattle.embed_promises.specs.Exports.{Exported}

-- the length, then the marks
abbrev pub state_of : Progress → List ℕ
state_of p = p.length ∷ p.marks

abbrev pub progress_in : List ℕ → Progress
progress_in l = record { length = get_or l 0 0; marks = drop 1 l }

-- a step on these events and this state
pub record StepExported (t : Step) (events state : List ℕ) (r : ℕ) (events' state' : List ℕ) : Type 0 where
  pub changed : Result KeptInput Error
  pub steps : Steps t (kept_input events (progress_in state)) changed
  pub packs : Packs r (step_answer changed)
  -- what it leaves is written, and a refusal changes nothing
  pub events_written : events' ≡ (step_left changed (kept_input events (progress_in state))).events
  pub state_written : state' ≡ state_of (step_left changed (kept_input events (progress_in state))).progress
  pub unchanged : (e : Error) → changed ≡ Err e → (events' ≡ events) × (state' ≡ state)

abbrev pub AddExported : ℕ → List ℕ → List ℕ → ℕ → List ℕ → List ℕ → Type 0
AddExported event = StepExported (Add event)

-- a step that takes the state alone, whatever the events are
pub record MoveExported (t : Step) (state : List ℕ) (r : ℕ) (state' : List ℕ) : Type 0 where
  pub of_any_events : (events : List ℕ) → length events ≡ max_tokens → StepExported t events state r events state'

pub record KeptExported (k : Lookahead) (words events state table memo : List ℕ) (r : ℕ) (table' memo' : List ℕ) : Type 0 where
  pub exported : Exported {Result = Answer} (λ a. a) (λ a. JudgesKept k words (kept_input events (progress_in state)) table memo a table' memo') r
