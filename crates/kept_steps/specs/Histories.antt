-- An input that is kept, with marks (document 02: a log with marks): what adding, marking and returning do to it, and when they are refused.
use Rattle.std.specs.Prelude.{List, [], ◌∷◌, ◌++◌, ℕ, leb, eqb, length, take}
use Rattle.std.proofs.Math.Option.{Option, none, some}
use Rattle.answer.specs.declared.Error.{Error}
use Rattle.answer.specs.declared.Error.TheVariants.{UnknownMark, MarkNotSet, InputFull}
use Rattle.answer.specs.Faults.{fault_if, first_fault}
use Rattle.base.specs.Choice.{choose}
use Rattle.grammar.specs.Limits.{max_tokens}

abbrev pub mark_count : ℕ
mark_count = 8

-- the events so far, as they came, and the length that each mark notes, where it is set
pub record Kept : Type 0 where
  pub events : List ℕ
  pub marks : ℕ → Option ℕ

-- an empty log without marks
abbrev pub empty_input : Kept
empty_input = record { events = []; marks = λ m. none }

pub data Step : Type 0 where
  Add : ℕ → Step
  Mark : ℕ → Step
  Return : ℕ → Step

abbrev pub unknown : ℕ → Option Error
unknown m = fault_if (leb mark_count m) UnknownMark

abbrev pub not_set : Option ℕ → Option Error
not_set none = some MarkNotSet
not_set (some n) = none

-- why a step is refused
unfoldable pub step_fault : Step → Kept → Option Error
step_fault (Add event) s = first_fault (fault_if (leb max_tokens (length s.events)) InputFull ∷ [])
step_fault (Mark m) s = first_fault (unknown m ∷ [])
step_fault (Return m) s = first_fault (unknown m ∷ not_set (s.marks m) ∷ [])

-- a mark within a length stays, and one beyond it is cleared
abbrev pub within_length : ℕ → Option ℕ → Option ℕ
within_length n none = none
within_length n (some k) = choose (leb k n) (some k) none

abbrev pub cut_at : Option ℕ → Kept → Kept
cut_at none s = s
cut_at (some n) s = record { events = take n s.events; marks = λ k. within_length n (s.marks k) }

-- what a step does
unfoldable pub done : Step → Kept → Kept
done (Add event) s = record { events = s.events ++ event ∷ []; marks = s.marks }
done (Mark m) s = record { events = s.events; marks = λ k. choose (eqb k m) (some (length s.events)) (s.marks k) }
done (Return m) s = cut_at (s.marks m) s

-- a refused step changes nothing
abbrev pub unless_refused : {A : Type 0} → Option Error → A → A → A
unless_refused (some e) new old = old
unless_refused none new old = new

unfoldable pub after_step : Step → Kept → Kept
after_step t s = unless_refused (step_fault t s) (done t s) s

-- a history of steps, the first one first
unfoldable pub ran : List Step → Kept → Kept
ran [] s = s
ran (t ∷ l) s = ran l (after_step t s)
