-- The answer of the judge with two tokens of lookahead, packed, is what is reported.
use Rattle.embed_promises.proofs.Exporting.{judge_exported}
use Rattle.embed.proofs.two.vinegarspit_judge2.Goals as goal

pub returns : goal.returns
returns c = judge_exported c.judge_two-answer.ensures c.pack.ensures
