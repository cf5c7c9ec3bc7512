-- The row is put behind its label.
use Rattle.text.proofs.Outputs.{puts_then}
use Rattle.sheet_text.specs.Sheet.{entries_line}
use Rattle.sheet_text.proofs.put_entries.Goals as goal

pub returns : goal.returns
unfolding entries_line
returns c = search (puts_then)
