-- A number of no mark, or the mark moved to the length.
use mathlib.Core.Path.{◌≡◌}
use lib.ListN.{length}
use Rattle.kept_steps.specs.Histories.{mark_count}
use Rattle.kept_marks.proofs.Stepping.{mark_unknown, mark_done}
use borrow.Author.Rules.{rules}
use Rattle.kept_marks.proofs.Progress.note.Goals as goal

pub returns-then-at-ge-MARKS-clause-moves : goal.returns-then-at-ge-MARKS-clause-moves
returns-then-at-ge-MARKS-clause-moves c = record { steps = λ events whole. mark_unknown events c.args.self.now c.args.mark c.if-at-ge-MARKS.true }

pub returns-clause-moves : goal.returns-clause-moves
returns-clause-moves c =
    let eight : length c.args.self.now.marks ≡ mark_count = search rules in
    record {
      steps = λ events whole. mark_done events c.args.self.now whole eight c.read-now.ensures
          c.args.mark c.if-at-ge-MARKS.false;
    }
