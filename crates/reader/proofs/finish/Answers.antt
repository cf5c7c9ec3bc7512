-- Behind the last word the end must have been.
use mathlib.Core.Path.{sym, ◌∙◌}
use Rattle.grammar.specs.Reading.{finished}
use Rattle.reader.proofs.finish.Goals as goal

pub returns-then-row : goal.returns-then-row
unfolding finished
returns-then-row c = rw (sym c.row.ensures ∙ c.if-row.true)

pub returns-else-row : goal.returns-else-row
unfolding finished
returns-else-row c = rw (sym c.row.ensures ∙ c.if-row.false)
