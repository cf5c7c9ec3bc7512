-- A nonterminal that overruns is put on a line of its own.
use mathlib.Core.Path.{sym, ◌∙◌}
use Rattle.text.proofs.Outputs.{puts_then}
use Rattle.gaps_text_promises.specs.Gaps.{overrun_text}
use Rattle.gaps_text_promises.specs.inner.Steps.{overrun_line}
use Rattle.gaps_text.proofs.put_overrun.Goals as goal

pub returns : goal.returns
unfolding overrun_line overrun_text
returns c = rw (sym c.is_empty.ensures ∙ c.if-is_empty.false) (puts_then c.put_number.ensures c.put_bytes.ensures)
