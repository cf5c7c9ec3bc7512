-- The answer is packed, and the state is written back.
use Rattle.embed_promises.proofs.Keeping.{move_exported}
use Rattle.kept_states.proofs.return_in.Goals as goal

pub returns : goal.returns
returns c =
    let back = c.write_back.ensures in
    move_exported _ c.progress_in-progress.ensures c.cut-step.ensures.moves back.packs back.left
