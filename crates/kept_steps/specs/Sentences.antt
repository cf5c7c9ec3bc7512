-- Document 02's sentences of the steps.
use Rattle.std.specs.Prelude.{◌≡◌, ℕ, ◌≤◌, ◌<◌, length, take}
use mathlib.Core.List.{List, [], ◌∷◌, ◌++◌, Memᴰ}
use Rattle.std.proofs.Math.Option.{none, some}
use Rattle.answer.specs.declared.Error.{Error}
use Rattle.answer.specs.declared.Error.TheVariants.{UnknownMark, MarkNotSet, InputFull}
use Rattle.grammar.specs.Limits.{max_tokens}
use Rattle.kept_steps.specs.Histories.{mark_count, Kept, Step, Add, Mark, Return, step_fault, after_step, ran}

-- what the steps do, one sentence each
pub record Sentences : Type 0 where
  -- the input grows by the event, and marks stay
  pub grows : (s : Kept) (event : ℕ) → length s.events < max_tokens
      → after_step (Add event) s ≡ record { events = s.events ++ event ∷ []; marks = s.marks }
  -- marking notes the length, wherever the mark was; nothing else changes
  pub marks : (s : Kept) (m : ℕ) → m < mark_count → (after_step (Mark m) s).marks m ≡ some (length s.events)
  pub others : (s : Kept) (m k : ℕ) → (k ≡ m → ⊥) → (after_step (Mark m) s).marks k ≡ s.marks k
  pub unread : (s : Kept) (m : ℕ) → (after_step (Mark m) s).events ≡ s.events
  -- returning cuts the input there; marks up to that length stay, those at it too, and those beyond it are cleared
  pub cuts : (s : Kept) (m n : ℕ) → m < mark_count → s.marks m ≡ some n → (after_step (Return m) s).events ≡ take n s.events
  pub stay : (s : Kept) (m n k j : ℕ) → m < mark_count → s.marks m ≡ some n → s.marks k ≡ some j → j ≤ n
      → (after_step (Return m) s).marks k ≡ some j
  pub clears : (s : Kept) (m n k j : ℕ) → m < mark_count → s.marks m ≡ some n → s.marks k ≡ some j → n < j
      → (after_step (Return m) s).marks k ≡ none
  -- a mark that is not set stays so until it is marked, however the input is cut and grows
  pub unset : (s : Kept) (k : ℕ) (l : List Step) → (Memᴰ (Mark k) l → ⊥) → s.marks k ≡ none → (ran l s).marks k ≡ none
  -- the refusals: 21; 19; 20, behind 19; and a refused step changes nothing
  pub full : (s : Kept) (event : ℕ) → max_tokens ≤ length s.events → step_fault (Add event) s ≡ some InputFull
  pub no_mark : (s : Kept) (m : ℕ) → mark_count ≤ m → step_fault (Mark m) s ≡ some UnknownMark
  pub no_return : (s : Kept) (m : ℕ) → mark_count ≤ m → step_fault (Return m) s ≡ some UnknownMark
  pub not_set : (s : Kept) (m : ℕ) → m < mark_count → s.marks m ≡ none → step_fault (Return m) s ≡ some MarkNotSet
  pub refused : (t : Step) (s : Kept) (e : Error) → step_fault t s ≡ some e → after_step t s ≡ s
