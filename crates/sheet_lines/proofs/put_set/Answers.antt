-- The number of elements is put behind the set.
use mathlib.Core.Path.{◌≡◌}
use borrow.Author.Rules.{rules}
use Rattle.lookahead.specs.Elements.{size}
use Rattle.text.proofs.Outputs.{puts_then}
use Rattle.sheet_lines.proofs.put_set.Goals as goal

pub returns : goal.returns
returns c = let e : c.size.result ≡ size c.args.bits = search rules in rw (← e) (puts_then c.put_labelled.ensures c.put_labelled-2.ensures)
