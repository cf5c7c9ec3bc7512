-- The numbers of the clients so far are the loop's invariant.
use Rattle.embed_promises.specs.inner.Records.{RecordsWritten}
use Rattle.client_rows.proofs.row_of.Given as goal

abbrev pub invariant-loop-client : goal.invariant-loop-client
invariant-loop-client l = RecordsWritten l.usage-items l.client l.row
