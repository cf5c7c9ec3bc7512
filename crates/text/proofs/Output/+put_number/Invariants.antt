-- The number falls: it is a tenth of what it was.
use Rattle.text.proofs.Output.+put_number.Given as goal

abbrev pub decreases-put_number : goal.decreases-put_number
decreases-put_number l = l.number
