-- The number is put behind its label.
use Rattle.text.proofs.Outputs.{puts_then}
use Rattle.text.proofs.Output.put_labelled.Goals as goal

pub returns : goal.returns
returns c = search (puts_then)
