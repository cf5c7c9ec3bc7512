-- The loop keeps: the words of the nonterminals before the one that it stands at are made.
use Prim.Native.Nat.{◌*◌}
use Rattle.grammar.specs.Limits.{max_places}
use Rattle.event.specs.Events.{input_of}
use Rattle.tree_writer_promises.specs.inner.Labels.{LabelledBelow}
use Rattle.vertex_labels.proofs.labels_by.Given as goal

abbrev pub invariant-loop-nonterminal : goal.invariant-loop-nonterminal
invariant-loop-nonterminal l = LabelledBelow l.sizes (input_of l.events) l.table l.memo (l.nonterminal * max_places) l.labels
