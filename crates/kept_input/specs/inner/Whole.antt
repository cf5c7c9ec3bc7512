-- A kept input as the code reads it, with arrays that are as long as their types tell.
use Rattle.std.specs.Prelude.{◌≡◌, length}
use Rattle.grammar.specs.Limits.{max_tokens}
use Rattle.kept_steps.specs.Histories.{mark_count}
use Rattle.kept_marks.specs.declared.Progress.{Progress}
use Rattle.kept_marks.specs.Properties.{Reads}
use Rattle.kept_input.specs.declared.KeptInput.{KeptInput}

pub record ReadWhole (k : KeptInput) (now : Progress) : Type 0 where
  pub reads : Reads k.progress now
  pub whole : length k.events ≡ max_tokens
  pub eight : length k.progress.marks ≡ mark_count
