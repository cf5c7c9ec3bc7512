-- The answer of the search, packed, is what is reported.
use Rattle.embed_promises.proofs.Exporting.{costliest_exported}
use Rattle.embed.proofs.costliest.vinegarspit_costliest.Goals as goal

pub returns : goal.returns
returns c = costliest_exported c.judge_costliest-answer.ensures c.pack.ensures
