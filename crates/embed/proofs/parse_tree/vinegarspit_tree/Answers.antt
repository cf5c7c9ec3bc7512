-- The answer is packed, and the number of words fits its word.
use mathlib.Core.Path.{refl}
use Rattle.embed_promises.proofs.Exporting.{tree_exported}
use Rattle.embed.proofs.parse_tree.vinegarspit_tree.Goals as goal

pub returns : goal.returns
returns c = tree_exported c.judge_tree-shown.ensures refl c.pack.ensures
