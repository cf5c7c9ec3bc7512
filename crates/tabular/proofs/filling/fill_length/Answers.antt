-- The loop keeps the chart filled up to the turn of the start.
use native.Mathlib.Omega.{arith}
use Rattle.tabular_promises.proofs.Turns.{length_end}
use Rattle.tabular.proofs.filling.fill_length.Goals as goal

pub returns : goal.returns
returns c = length_end c.loop-start.start c.args.length c.requires (omega arith) (omega arith) c.loop-start.invariant
