-- The three numbers are put one behind the other.
use Rattle.text.proofs.Outputs.{puts_then}
use Rattle.sheet_lines.specs.Lines.{sizes_line}
use Rattle.sheet_lines.proofs.put_sizes.Goals as goal

pub returns : goal.returns
unfolding sizes_line
returns c = search (puts_then)
