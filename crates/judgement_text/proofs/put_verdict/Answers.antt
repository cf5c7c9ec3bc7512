-- The two numbers are put behind the verdict, then the calls.
use borrow.Author.Rules.{rules}
use Rattle.text.proofs.Outputs.{puts_then}
use Rattle.judgement_text.proofs.put_verdict.Goals as goal

pub returns : goal.returns
returns c =
    let line = puts_then (puts_then c.put_labelled.ensures c.put_labelled-2.ensures) c.put_bytes.ensures in
    let put = puts_then line c.put_calls.ensures in
    search (rules, put)
