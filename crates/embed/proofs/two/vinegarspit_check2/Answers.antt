-- The answer of a check with two tokens of lookahead, packed, is what is reported.
use Rattle.embed_promises.proofs.Exporting.{check_exported}
use Rattle.embed.proofs.two.vinegarspit_check2.Goals as goal

pub returns : goal.returns
returns c = check_exported c.check_two-answer.ensures c.pack.ensures
