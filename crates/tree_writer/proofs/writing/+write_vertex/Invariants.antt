-- From a call to those below it the tokens left fall, or else the rank does; the loop keeps how far the visit has come.
use Rattle.tree_writer_promises.specs.inner.Writer.{falling}
use Rattle.tree_writer_promises.proofs.Vertices.{Onward}
use Rattle.tree_writer.proofs.writing.+write_vertex.Given as goal

abbrev pub decreases-write_vertex : goal.decreases-write_vertex
decreases-write_vertex l = falling l.words.now l.labels.now l.entry

abbrev pub invariant-loop-at : goal.invariant-loop-at
invariant-loop-at l =
    Onward l.words l.starts l.entry l.written l.start l.initial.labels l.initial.tree l.initial.count l.initial.at l.initial.place l.labels l.tree
    l.count l.at l.place
