-- The input lent as a part of the events.
use mathlib.Core.Path.{◌≡◌}
use lib.ListN.{length}
use Rattle.grammar.specs.Limits.{max_tokens}
use Rattle.kept_input.proofs.Judging.{judges_kept}
use borrow.Author.Rules.{rules}
use Rattle.kept_judge.proofs.judge_kept.Goals as goal

pub returns : goal.returns
returns g c =
    let whole : length c.args.kept.events ≡ max_tokens = search rules in
    judges_kept c.args.kept whole c.input_length-length.result c.input_length-length.ensures c.judge.ensures
