-- The loop keeps what the words say from the index on equal to what they said at the start.
use Rattle.std.proofs.Common.{◌≡◌, sym, ◌∙◌, rules, Err, length}
use native.Mathlib.Omega.{arith}
use Rattle.grammar.proofs.Scanning.{scan_go, scan_stop, scan_over}
use Rattle.reader.proofs.read_rules.Goals as goal

pub returns-in_err-progress : goal.returns-in_err-progress
returns-in_err-progress c =
    let r : c.from_residual.result ≡ Err c.in_err-progress.field-0.0 = search rules in
    r ∙ sym (scan_stop _ _ _ _ c.loop-behind-test.true c.decode-word.ensures c.read_word.ensures c.in_err-progress.was) ∙ c.loop-behind.invariant

pub loop-behind-preserved : goal.loop-behind-preserved
loop-behind-preserved c =
    sym (scan_go _ _ _ _ c.loop-behind-test.true c.decode-word.ensures c.read_word.ensures c.in_ok-progress.was) ∙ c.loop-behind.invariant

pub returns : goal.returns
returns c =
    let e : length c.args.words.now ≡ c.loop-behind.behind = omega arith in
    rw e at c.finish.ensures ∙ sym (scan_over _ _ _ _ c.loop-behind-test.false) ∙ c.loop-behind.invariant
