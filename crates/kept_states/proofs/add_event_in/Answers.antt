-- The answer is packed, and the state is written back; the event was written in place.
use Rattle.embed_promises.proofs.Keeping.{add_exported}
use Rattle.kept_states.proofs.add_event_in.Goals as goal

pub returns : goal.returns
returns c =
    let back = c.write_back.ensures in
    add_exported _ c.progress_in-progress.ensures c.push_event-step.ensures.adds back.packs back.left
