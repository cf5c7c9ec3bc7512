-- There are as many rows as fit.
use mathlib.Core.Path.{◌∙◌}
use Prim.Native.Nat.{◌+◌, ◌/◌}
use native.Mathlib.Omega.{arith}
use lib.ListN.{length}
use Rattle.memo_table.proofs.Tallying.{count_take, tallied}
use Rattle.memo_table.proofs.tally.Goals as goal

pub returns : goal.returns
returns c =
    let args = c.args in
    let counted = c.count_calls-count.ensures ∙ count_take _ _ (omega arith) in
    tallied args.memo.now args.tokens (length args.memo.now / (args.tokens + 1)) counted c.farthest-farthest.ensures
