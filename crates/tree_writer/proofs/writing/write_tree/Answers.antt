-- The tree is written from its root, by the starts of the rules and the words of the vertices.
use Rattle.tree_writer_promises.proofs.Root.{tree_start, tree_done}
use Rattle.tree_writer.proofs.writing.write_tree.Goals as goal

pub write_vertex-requires : goal.write_vertex-requires
write_vertex-requires c =
    tree_start c.requires c.rule_starts.ensures c.labels_of-labels.ensures

pub returns : goal.returns
returns c =
    tree_done c.requires c.rule_starts.ensures c.labels_of-labels.ensures c.write_vertex.ensures
