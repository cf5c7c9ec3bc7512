-- The row is read, and what the client is served with is handed back.
use Rattle.embed_promises.proofs.Exporting.{served_exported}
use Rattle.embed.proofs.client.vinegarspit_judge_for.Goals as goal

pub returns : goal.returns
returns c = served_exported c.usages_in-before.ensures c.judge_for-served.ensures c.hand_back.ensures
