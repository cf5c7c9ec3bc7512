-- The loop keeps: the bytes passed are put.
use Rattle.text.proofs.Outputs.{puts_more}
use Rattle.text.proofs.Output.put_bytes.Goals as goal

pub loop-byte-preserved : goal.loop-byte-preserved
loop-byte-preserved c = puts_more _ _ c.loop-byte-test.true c.loop-byte.invariant c.put_byte.ensures
