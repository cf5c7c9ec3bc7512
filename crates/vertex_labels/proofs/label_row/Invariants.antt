-- The loop keeps: the words of the calls before the nonterminal and the place that it stands at are made.
use Prim.Native.Nat.{◌+◌, ◌*◌}
use Rattle.grammar.specs.Limits.{max_places}
use Rattle.event.specs.Events.{input_of}
use Rattle.tree_writer_promises.specs.inner.Labels.{LabelledBelow}
use Rattle.vertex_labels.proofs.label_row.Given as goal

abbrev pub invariant-loop-place : goal.invariant-loop-place
invariant-loop-place l = LabelledBelow l.sizes (input_of l.events) l.table l.memo (l.nonterminal * max_places + l.place) l.labels
