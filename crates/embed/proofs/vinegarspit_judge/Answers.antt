-- The answer of the judge, packed, is what is reported.
use Rattle.embed_promises.proofs.Exporting.{judge_exported}
use Rattle.embed.proofs.vinegarspit_judge.Goals as goal

pub returns : goal.returns
returns c = judge_exported c.judge-answer.ensures c.pack.ensures
