-- By whether the call was made.
use native.Mathlib.Omega.{arith}
use borrow.Author.Tests.{eq-eqb, ne_eqb}
use Rattle.grammar.specs.Codes.{uncalled_code}
use Rattle.text.proofs.Outputs.{puts_none, puts_then}
use Rattle.calls_text.specs.Calls.{call_text}
use Rattle.calls_text.proofs.put_call.Goals as goal

pub returns-then-entry-eq-UNCALLED : goal.returns-then-entry-eq-UNCALLED
unfolding call_text
returns-then-entry-eq-UNCALLED c = rw (eq-eqb c.args.entry uncalled_code c.if-entry-eq-UNCALLED.true) (puts_none _)

pub returns : goal.returns
unfolding call_text
returns c =
    rw (ne_eqb c.args.entry uncalled_code (λ e. omega arith))
    (puts_then (puts_then (puts_then c.put_number.ensures c.put_labelled.ensures) c.put_end.ensures) c.put_bytes.ensures)
