-- The parts of the line are put one behind the other.
use borrow.Author.Tests.{ne_eqb}
use Rattle.text.proofs.Outputs.{puts_then}
use Rattle.gaps_text_promises.specs.inner.Steps.{entry_line}
use Rattle.claimants_text.proofs.put_entry.Goals as goal

pub returns : goal.returns
unfolding entry_line
returns c =
    rw (← c.min-rules.ensures, ← c.element-element.ensures, ← c.count_claimants-number.ensures, ne_eqb _ 1 c.if-number-eq1.false)
    (puts_then (puts_then c.put_place.ensures c.put_claimants.ensures) c.put_bytes.ensures)
