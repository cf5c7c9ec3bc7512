-- The numbers of the clients so far are the loop's invariant.
use mathlib.Core.Path.{◌≡◌}
use native.Mathlib.Omega.{arith}
use borrow.Author.Rules.{rules}
use lib.ListN.{length}
use Rattle.client_records.specs.Usages.{clients}
use Rattle.embed_promises.proofs.RecordRows.{one_written, all_written}
use Rattle.client_rows.proofs.row_of.Goals as goal

pub loop-client-preserved : goal.loop-client-preserved
loop-client-preserved c = one_written c.loop-client.invariant (omega arith)

pub returns : goal.returns
returns c =
    let long : length c.args.usages ≡ clients = search rules in
    all_written c.loop-client.invariant (omega arith) long
