-- A number of no mark, a mark that is not set, or the input cut.
use mathlib.Core.Path.{◌≡◌}
use lib.ListN.{length}
use Rattle.kept_steps.specs.Histories.{mark_count}
use Rattle.kept_marks.proofs.Stepping.{return_unknown, return_unset, return_done}
use borrow.Author.Rules.{rules}
use Rattle.kept_marks.proofs.Progress.cut.Goals as goal

pub returns-then-at-ge-MARKS-clause-moves : goal.returns-then-at-ge-MARKS-clause-moves
returns-then-at-ge-MARKS-clause-moves c = record { steps = λ events whole. return_unknown events c.args.self.now c.args.mark c.if-at-ge-MARKS.true }

pub returns-then-now-length-clause-moves : goal.returns-then-now-length-clause-moves
returns-then-now-length-clause-moves c =
    let eight : length c.args.self.now.marks ≡ mark_count = search rules in
    record {
      steps = λ events whole. return_unset events c.args.self.now whole eight c.read-now.ensures c.args.mark
          c.if-at-ge-MARKS.false c.if-now-length.true;
    }

pub returns-clause-moves : goal.returns-clause-moves
returns-clause-moves c =
    let eight : length c.args.self.now.marks ≡ mark_count = search (rules, c.well_formed) in
    record {
      steps = λ events whole. return_done events c.args.self.now whole eight c.read-now.ensures c.args.mark c.if-at-ge-MARKS.false
          c.if-now-length.false c.all_cleared-marks.ensures;
    }
