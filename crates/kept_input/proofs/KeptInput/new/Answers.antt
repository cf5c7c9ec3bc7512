-- By computation, but for the events, which are as many as there may be.
use Rattle.kept_input.proofs.Adding.{begins, begin_stored}
use Rattle.kept_input.proofs.KeptInput.new.Goals as goal

pub returns : goal.returns
returns c = begins (begin_stored c.new.ensures)
