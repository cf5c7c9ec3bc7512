-- A kept input as it is stored, its events apart from its length and marks, and what any stored value is read as.
use Rattle.std.specs.Prelude.{List, [], ◌∷◌, ◌++◌, ℕ, zero, suc, min, leb, length, get_or, take, drop}
use Rattle.std.proofs.Math.Option.{Option, none, some}
use Rattle.base.specs.Choice.{choose}
use Rattle.grammar.specs.Limits.{max_tokens}
use Rattle.kept_steps.specs.Histories.{mark_count, Kept}
use Rattle.kept_marks.specs.declared.Progress.{Progress}

-- what a mark that is not set is stored as
abbrev pub unset_code : ℕ
unset_code = 65535

-- any value is read: a length over the limit as the limit, and a mark beyond the length as not set. The papers leave free what such a value
-- means; no history from an empty input makes one
abbrev pub length_read : Progress → ℕ
length_read p = min p.length max_tokens

abbrev pub read_mark : ℕ → ℕ → Option ℕ
read_mark n x = choose (leb x n) (some x) none

unfoldable pub held_by : List ℕ → Progress → Kept
held_by events p = record {
  events = take (length_read p) events;
  marks = λ m. read_mark (length_read p) (get_or p.marks m unset_code);
}

-- a function's values at 0, 1 and so on, as many as are asked for
unfoldable pub values_of : (ℕ → ℕ) → ℕ → List ℕ
values_of f zero = []
values_of f (suc n) = f 0 ∷ values_of (λ m. f (suc m)) n

abbrev pub code_of : Option ℕ → ℕ
code_of none = unset_code
code_of (some n) = n

-- how it is stored: its length and its marks, and its events in front of those that stood there
unfoldable pub progress_of : Kept → Progress
progress_of s = record { length = length s.events; marks = values_of (λ m. code_of (s.marks m)) mark_count }

abbrev pub stored_events : List ℕ → Kept → List ℕ
stored_events old s = s.events ++ drop (length s.events) old
