-- The length bounded, and marks beyond it cleared.
use mathlib.Core.Path.{◌≡◌, sym, ◌∙◌}
use lib.ListN.{length}
use Rattle.kept_steps.specs.Histories.{mark_count}
use Rattle.kept_marks.specs.declared.Progress.{Progress}
use Rattle.kept_marks.specs.inner.Stored.{read_progress}
use Rattle.kept_marks.proofs.Stepping.{stored_read}
use borrow.Author.Rules.{rules}
use Rattle.kept_marks.proofs.Progress.read.Goals as goal

pub returns : goal.returns
returns c =
    let given = c.args.self in
    let eight : length given.marks ≡ mark_count = search rules in
    let now : Progress = record { length = c.bounded-length.result; marks = c.all_cleared-marks.result } in
    let read : now ≡ read_progress given = rw (c.all_cleared-marks.ensures, c.bounded-length.ensures) in
    record { stored = λ events whole. read ∙ sym (stored_read events given whole eight) }
