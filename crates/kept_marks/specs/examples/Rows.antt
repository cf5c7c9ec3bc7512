-- Worked histories.
use Rattle.std.specs.Prelude.{◌≡◌, List, [], ◌∷◌, ℕ}
use Rattle.std.proofs.Math.Option.{some}
use Rattle.answer.specs.declared.Error.TheVariants.{UnknownMark, MarkNotSet}
use Rattle.kept_steps.specs.Histories.{empty_input, Step, Add, Mark, Return, step_fault, ran}
use Rattle.kept_marks.specs.Stored.{progress_of}
use Rattle.kept_marks.specs.declared.Progress.{Progress}

-- two marks at one length, then a third beyond it
unfoldable pub rehearsed : List Step
rehearsed = Add 1 ∷ Mark 0 ∷ Mark 1 ∷ Add 130 ∷ Mark 2 ∷ []

-- the move undone, and another tried, past the mark that was cleared
unfoldable pub undone : List Step
undone = Add 1 ∷ Mark 0 ∷ Mark 1 ∷ Add 130 ∷ Mark 2 ∷ Return 1 ∷ Add 3 ∷ Add 4 ∷ []

abbrev pub at_three : ℕ → ℕ → ℕ → ℕ → Progress
at_three n a b c = record { length = n; marks = a ∷ b ∷ c ∷ 65535 ∷ 65535 ∷ 65535 ∷ 65535 ∷ 65535 ∷ [] }

pub record Worked : Type 0 where
  -- events are kept with their direction
  pub events : (ran rehearsed empty_input).events ≡ 1 ∷ 130 ∷ []
  pub set : progress_of (ran rehearsed empty_input) ≡ at_three 2 1 1 2
  -- marks at the length that is returned to stay; the one beyond it goes, and does not come back when the input is as long again
  pub other : (ran undone empty_input).events ≡ 1 ∷ 3 ∷ 4 ∷ []
  pub cut : progress_of (ran undone empty_input) ≡ at_three 3 1 1 65535
  pub gone : step_fault (Return 2) (ran undone empty_input) ≡ some MarkNotSet
  pub none_such : step_fault (Return 8) (ran undone empty_input) ≡ some UnknownMark
