-- The loop keeps: the cursor stands, and the calls of the entries before it are put.
use borrow.Author.Rules.{rules}
use Rattle.text.proofs.Outputs.{puts_last}
use Rattle.calls_text.proofs.Cursors.{passing_first, passing_step}
use Rattle.calls_text.specs.Calls.{calls_text}
use Rattle.calls_text.proofs.put_calls.Goals as goal

pub loop-entry-init : goal.loop-entry-init
loop-entry-init c = passing_first _ _ _ _ c.first-cursor.ensures.0 c.first-cursor.ensures.1

pub loop-entry-preserved : goal.loop-entry-preserved
loop-entry-preserved c =
    passing_step _ _ _ _ _ _ c.loop-entry.invariant c.put_entry.ensures c.step-cursor.ensures.0 c.step-cursor.ensures.1

pub returns : goal.returns
unfolding calls_text
returns c = puts_last _ (search rules) c.loop-entry-test.false c.loop-entry.invariant.2
