-- An answer that is no acceptance writes nothing; after an acceptance the lent memories are what the tree is written by.
use Rattle.tree_writer_promises.proofs.Showing.{shows_none, show_given, shows_tree}
use Rattle.tree_writer.proofs.judge_tree.Goals as goal

pub returns-in_default : goal.returns-in_default
returns-in_default c =
    shows_none c.args.tree.now c.judge_with_room-answer.ensures c.in_default.not-Accepted

pub write_tree-written-requires : goal.write_tree-written-requires
write_tree-written-requires c =
    show_given c.args.tree.now c.judge_with_room-answer.ensures _ c.in-Accepted.is

pub returns : goal.returns
returns c =
    shows_tree c.args.tree.now c.judge_with_room-answer.ensures _ c.in-Accepted.is c.write_tree-written.ensures
