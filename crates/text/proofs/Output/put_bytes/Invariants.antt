-- The loop keeps: the bytes passed are put.
use Rattle.std.proofs.Common.{take}
use Rattle.text.specs.inner.Outputs.{Puts}
use Rattle.text.proofs.Output.put_bytes.Given as goal

abbrev pub invariant-loop-byte : goal.invariant-loop-byte
invariant-loop-byte l = Puts (take l.byte-index l.bytes) l.initial.self l.self
