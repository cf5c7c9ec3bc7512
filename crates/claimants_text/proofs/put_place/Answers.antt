-- The two numbers are put one behind the other.
use Rattle.text.proofs.Outputs.{puts_then}
use Rattle.claimants_text.proofs.put_place.Goals as goal

pub returns : goal.returns
returns c = search (puts_then)
