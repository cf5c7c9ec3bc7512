-- Any history of calls on a kept input in the caller's memory: what it begins with, what it leaves, and what a judgement of it is.
use Rattle.std.specs.Prelude.{◌≡◌, List, [], ◌∷◌, ℕ, suc, ◌<◌, replicate}
use Rattle.std.proofs.Math.Option.{some}
use Rattle.lookahead.specs.declared.Lookahead.{Lookahead}
use Rattle.event.specs.Events.{input_of}
use Rattle.kept_steps.specs.Histories.{mark_count, Kept, empty_input, Step, ran}
use Rattle.kept_marks.specs.Stored.{unset_code}
use Rattle.kept_input.specs.Held.{kept_input, held_input}
use Rattle.embed_promises.specs.Exports.{JudgeExported}
use Rattle.embed_promises.specs.Kept.{progress_in, StepExported, KeptExported}

-- what events and a state hold
abbrev pub held_in : List ℕ → List ℕ → Kept
held_in events state = held_input (kept_input events (progress_in state))

-- the state to begin with: length 0, and no mark set
abbrev pub empty_state : List ℕ
empty_state = 0 ∷ replicate mark_count unset_code

-- the state in memory that is all 0
abbrev pub zero_state : List ℕ
zero_state = replicate (suc mark_count) 0

-- by these steps, each a call, from events and a state to events and a state
pub data Calls : List ℕ → List ℕ → List Step → List ℕ → List ℕ → Type 0 where
  idle : {events state : List ℕ} → Calls events state [] events state
  next : {events state events' state' events'' state'' : List ℕ} {t : Step} {l : List Step} (r : ℕ) → StepExported t events state r events' state'
      → Calls events' state' l events'' state''
      → Calls events state (t ∷ l) events'' state''

pub record HistoriesExported : Type 0 where
  -- whatever events stand there, the state to begin with is that of the empty input without marks
  pub begins : (events : List ℕ) → held_in events empty_state ≡ empty_input
  -- one that is all 0 is that of the empty input, too, but with every mark set
  pub zeroed : (events : List ℕ) → (held_in events zero_state).events ≡ []
  pub zero_set : (events : List ℕ) (m : ℕ) → m < mark_count → (held_in events zero_state).marks m ≡ some 0
  -- what is left holds what the steps make of what was held
  pub holds : {events state events' state' : List ℕ} {l : List Step} → Calls events state l events' state'
      → held_in events' state' ≡ ran l (held_in events state)
  -- and begun so, a judgement is that of the events which the history leaves, taken afresh with the same grammar, lookahead and memory
  pub judged : {k : Lookahead} {events events' state' : List ℕ} {l : List Step} → Calls events empty_state l events' state'
      → {words table memo table' memo' table'' memo'' : List ℕ} {r s : ℕ} → KeptExported k words events' state' table memo r table' memo'
      → JudgeExported k words (input_of (ran l empty_input).events) table memo s table'' memo''
      → (r ≡ s) × (table' ≡ table'') × (memo' ≡ memo'')
