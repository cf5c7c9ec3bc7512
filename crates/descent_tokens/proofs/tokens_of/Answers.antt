-- The loop keeps: the words of the events passed are written, over words of the end.
use mathlib.Core.Path.{◌≡◌, sym, ap, ap₂, ◌∙◌}
use Prim.Native.Nat.{◌+◌}
use native.Mathlib.Omega.{arith}
use lib.ListN.{length}
use Rattle.event.specs.Events.{input_of}
use Rattle.event.proofs.Inputs.{input_length, input_at}
use Rattle.columns.specs.inner.Columns.{column_before, column_last}
use Rattle.columns.proofs.Columns.{column_inner, column_last_lem, column_end_lem}
use Rattle.descent_arrays.specs.inner.Arrays.{end_mark}
use Rattle.descent_tokens.specs.inner.Tokens.{token_word}
use Rattle.descent_tokens.proofs.TokenWords.{written_none, written_more, written_all}
use Rattle.descent_tokens.proofs.tokens_of.Goals as goal

pub loop-place-init : goal.loop-place-init
loop-place-init c =
    let k = c.args.lookahead in
    let n = c.args.terminals in
    let input = input_of c.args.events.now in
    let column = c.column_end.ensures ∙ sym (column_end_lem k n input (length input) (omega arith)) in
    written_none k n input (c.word_of-end.ensures ∙ ap (λ x. token_word x end_mark) column)

pub loop-place-preserved : goal.loop-place-preserved
loop-place-preserved c =
    let k = c.args.lookahead in
    let n = c.args.terminals in
    let events = c.args.events.now in
    let place = c.loop-place.place in
    let token = c.terminal_of-terminal.ensures ∙ sym (input_at events place) in
    let next = c.terminal_of.ensures ∙ sym (input_at events (place + 1)) in
    let column =
    c.column_before-column.ensures
    ∙ ap₂ (column_before k) token next
    ∙ sym (column_inner k n (input_of events) place (omega (arith, input_length events))) in
    written_more k n (input_of events) c.loop-place.invariant (omega arith) (omega (arith, input_length events))
    (c.word_of.ensures ∙ ap₂ token_word column token)

pub returns-then-min-followed : goal.returns-then-min-followed
returns-then-min-followed c =
    let events = c.args.events.now in
    written_all c.args.lookahead c.args.terminals (input_of events) (omega (arith, input_length events)) c.loop-place.invariant

pub returns : goal.returns
returns c =
    let k = c.args.lookahead in
    let n = c.args.terminals in
    let events = c.args.events.now in
    let place = c.min-followed.result in
    let passed : c.loop-place.place ≡ place = omega arith in
    let long = input_length events in
    let token = c.terminal_of-terminal-2.ensures ∙ sym (input_at events place) in
    let column =
    c.column_last.ensures
    ∙ ap (column_last k) token
    ∙ sym (column_last_lem k n (input_of events) place (omega (arith, long)) (omega (arith, long))) in
    written_all k n (input_of events) (omega (arith, long))
    (written_more k n (input_of events) (rw passed at c.loop-place.invariant) (omega arith) (omega (arith, long))
    (c.word_of-2.ensures ∙ ap₂ token_word column token))
