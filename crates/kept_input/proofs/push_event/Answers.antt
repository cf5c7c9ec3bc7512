-- A full input, or one event more.
use native.Mathlib.Omega.{arith}
use Rattle.kept_input.proofs.Adding.{add_done}
use Rattle.kept_input.proofs.push_event.Goals as goal

pub returns-clause-adds : goal.returns-clause-adds
returns-clause-adds c =
    let reads = c.read-now.ensures in
    add_done c.args.events.now c.args.progress.now reads.whole reads.eight reads.reads c.args.event (omega arith)
