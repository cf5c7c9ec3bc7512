-- A refusal is put by its code and position.
use borrow.Author.Rules.{rules}
use Rattle.text.proofs.Outputs.{puts_then}
use Rattle.refusal_text.specs.Refusal.{refusal_text}
use Rattle.refusal_text.proofs.put_refusal.Goals as goal

pub returns : goal.returns
unfolding refusal_text
returns c =
    let put = puts_then (puts_then c.put_labelled.ensures c.put_labelled-2.ensures) c.put_bytes.ensures in
    rw (← c.code.ensures, ← c.position.ensures) (search (rules, put))
