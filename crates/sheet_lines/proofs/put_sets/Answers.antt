-- The two sets are put behind the nonterminal.
use Rattle.text.proofs.Outputs.{puts_then}
use Rattle.sheet_lines.specs.Lines.{sets_line}
use Rattle.sheet_lines.proofs.put_sets.Goals as goal

pub returns : goal.returns
unfolding sets_line
returns c =
    rw (← c.word_at-first.ensures, ← c.word_at-follow.ensures)
    (puts_then (puts_then (puts_then c.put_labelled.ensures c.put_set.ensures) c.put_set-2.ensures) c.put_bytes.ensures)
