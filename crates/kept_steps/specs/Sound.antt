-- Events and marks that fit together.
use Rattle.std.specs.Prelude.{◌≡◌, ℕ, ◌≤◌, length}
use Rattle.std.proofs.Math.Option.{none, some}
use Rattle.grammar.specs.Limits.{max_tokens}
use Rattle.kept_steps.specs.Histories.{mark_count, Kept}

-- what a history from an empty input leaves
pub record Sound (s : Kept) : Type 0 where
  pub short : length s.events ≤ max_tokens
  pub inside : (m n : ℕ) → s.marks m ≡ some n → n ≤ length s.events
  pub eight : (m : ℕ) → mark_count ≤ m → s.marks m ≡ none
