-- The answer of a check, packed, is what is reported.
use Rattle.embed_promises.proofs.Exporting.{check_exported}
use Rattle.embed.proofs.vinegarspit_check.Goals as goal

pub returns : goal.returns
returns c = check_exported c.check-answer.ensures c.pack.ensures
