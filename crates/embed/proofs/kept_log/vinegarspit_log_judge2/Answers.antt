-- The answer of the judge, packed, is what is reported.
use Rattle.embed_promises.proofs.Keeping.{kept_exported}
use Rattle.embed.proofs.kept_log.vinegarspit_log_judge2.Goals as goal

pub returns : goal.returns
returns c = kept_exported c.kept_in-kept.ensures c.judge_kept_two-answer.ensures c.pack.ensures
