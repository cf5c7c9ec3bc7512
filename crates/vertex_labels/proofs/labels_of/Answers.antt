-- The words are read, and labelled by what is read.
use Rattle.event.specs.Events.{input_of}
use Rattle.tree_writer_promises.proofs.Labelling.{labels_faulty}
use Rattle.vertex_labels.proofs.labels_of.Goals as goal

pub returns-in_default : goal.returns-in_default
returns-in_default c =
    let given = c.args in
    labels_faulty (input_of given.events.now) given.table.now given.memo.now c.read-outcome.ensures c.in_default.not-Ok
