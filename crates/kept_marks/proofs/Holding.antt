-- What an array of events and eight marks hold fits together.
use mathlib.Core.Path.{◌≡◌}
use mathlib.Core.List.{List}
use mathlib.Core.Option.{some}
use Prim.Native.Nat.{ℕ, ◌≤◌}
use native.Mathlib.Omega.{arith}
use lib.ListN.{length, get_or, get_or-eq_default}
use lib.Seq.{length-take-le}
use Rattle.grammar.specs.Limits.{max_tokens}
use Rattle.kept_steps.specs.Histories.{mark_count}
use Rattle.kept_steps.specs.Sound.{Sound}
use Rattle.kept_steps.proofs.Soundness.{within_short}
use Rattle.kept_marks.specs.declared.Progress.{Progress}
use Rattle.kept_marks.specs.Stored.{unset_code, length_read, read_mark, held_by}
use Rattle.kept_marks.proofs.Storing.{read_unset}

read_short : (n k x : ℕ) → read_mark n x ≡ some k → k ≤ n
read_short n k x e = within_short n k (some x) e

module _ (events : List ℕ) (p : Progress) (whole : length events ≡ max_tokens) (eight : length p.marks ≡ mark_count) where
  pub held_length : length (held_by events p).events ≡ length_read p
  unfolding held_by
  held_length = length-take-le (length_read p) events (omega (arith, whole))

  pub held_sound : Sound (held_by events p)
  unfolding held_by
  held_sound = record {
    short = omega (arith, held_length);
    inside = λ m n e. omega (arith, held_length, read_short (length_read p) n (get_or p.marks m unset_code) e);
    eight = λ m a. rw (get_or-eq_default p.marks unset_code {n = m} (omega (arith, eight, a))) (read_unset (length_read p) unset_code (omega arith));
  }
