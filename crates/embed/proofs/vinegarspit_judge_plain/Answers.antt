-- The answer of the plain judge, packed, is what is reported.
use Rattle.embed_promises.proofs.Exporting.{tabular_exported}
use Rattle.embed.proofs.vinegarspit_judge_plain.Goals as goal

pub returns : goal.returns
returns c = tabular_exported c.judge-answer.ensures c.pack.ensures
