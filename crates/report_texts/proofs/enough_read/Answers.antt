-- The lengths are one past the limits.
use Rattle.report_texts.proofs.Enough.{enough}
use Rattle.report_texts.proofs.enough_read.Goals as goal

pub returns : goal.returns
returns c = enough
