-- By how many tokens are left: two or more, one, or none.
use mathlib.Core.Path.{◌≡◌, sym, ap₂, ◌∙◌}
use Prim.Native.Nat.{◌+◌}
use native.Mathlib.Omega.{arith}
use lib.ListN.{get_or}
use Rattle.event.specs.Events.{input_of}
use Rattle.event.proofs.Inputs.{input_length, input_at}
use Rattle.columns.specs.inner.Columns.{column_before}
use Rattle.columns.proofs.Columns.{column_inner, column_end_lem}
use Rattle.columns.proofs.column_at.Goals as goal

pub returns-then-events-place : goal.returns-then-events-place
returns-then-events-place c =
    let events = c.args.events.now in
    c.column_end.ensures
    ∙ sym (column_end_lem c.args.lookahead c.args.terminals (input_of events) c.args.place
    (omega (arith, c.if-events-place.true, input_length events)))

pub returns : goal.returns
returns c =
    let events = c.args.events.now in
    let place = c.args.place in
    let token : c.terminal_of-token.result ≡ get_or (input_of events) place 0 = c.terminal_of-token.ensures ∙ sym (input_at events place) in
    let next : c.terminal_of.result ≡ get_or (input_of events) (place + 1) 0 = c.terminal_of.ensures ∙ sym (input_at events (place + 1)) in
    let long = input_length events in
    c.column_before.ensures ∙ ap₂ (column_before c.args.lookahead) token next
    ∙ sym (column_inner c.args.lookahead c.args.terminals (input_of events) place (omega (arith, c.if-events-place-2.false)))
