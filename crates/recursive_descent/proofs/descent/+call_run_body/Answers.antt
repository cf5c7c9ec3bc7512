-- The descent is the one of the semantics: each call gives what its rule gives, and a rule what its bodies agree on.
use mathlib.Core.Path.{sym, ap, ◌∙◌}
use Prim.Native.Nat.{◌+◌}
use native.Mathlib.Omega.{arith}
use Rattle.descent_arrays.specs.inner.Arrays.{held_tokens}
use Rattle.descent_steps.specs.inner.Steps.{meant}
use Rattle.recursive_descent_promises.proofs.Choosing.{token_low, row_given, column_given, entry_is, first_is}
use Rattle.recursive_descent_promises.proofs.Running.{Read, read_as, running_start, running_done, running_within}
use Rattle.recursive_descent_promises.proofs.Running.{running_given, running_falls, terminal_read, call_read}
use Rattle.recursive_descent_promises.proofs.Calling.{going_conjunct, going_run, going_on, going_turn, going_ended}
use Rattle.recursive_descent_promises.proofs.Storing.{index_low, call_known, call_stored}
use Rattle.recursive_descent_promises.proofs.Starting.{start_going}
use Rattle.recursive_descent.proofs.descent.+call_run_body.Goals as goal
use Rattle.recursive_descent.proofs.descent.+call_run_body.Goals.{run_body-in-Terminal, run_body-in-Nonterminal}

pub call-choice_at-row-requires : goal.call-choice_at-row-requires
call-choice_at-row-requires t c = row_given c.requires.1

pub call-bounds-memo-entry : goal.call-bounds-memo-entry
call-bounds-memo-entry t c = index_low c.requires.1 (entry_is c.requires.1 c.choice_at-row.ensures c.entry_of-entry.ensures)

pub call-returns-then-known : goal.call-returns-then-known
call-returns-then-known t c = λ choice g. call_known g (entry_is g c.choice_at-row.ensures c.entry_of-entry.ensures) c.if-known.true

pub call-choice_at-first-requires : goal.call-choice_at-first-requires
call-choice_at-first-requires t c = column_given c.requires.1 c.token_at.ensures c.column_of-column.ensures

pub call-loop-from-init : goal.call-loop-from-init
call-loop-from-init t c = λ choice g.
    start_going g (first_is g c.token_at.ensures c.column_of-column.ensures c.choice_at-first.ensures) c.first_state-state.ensures

pub call-overflow_add-from : goal.call-overflow_add-from
call-overflow_add-from t c =
    let further = sym c.goes_further.ensures ∙ c.loop-from-test.true in
    omega (arith, going_conjunct c.requires.1 (c.loop-from.invariant _ c.requires.1) further)

pub call-run_body-run-requires : goal.call-run_body-run-requires
call-run_body-run-requires t c =
    let further = sym c.goes_further.ensures ∙ c.loop-from-test.true in
    (omega (arith, c.decreases), (_, going_run c.requires.1 (c.loop-from.invariant _ c.requires.1) further))

pub call-loop-from-smaller : goal.call-loop-from-smaller
call-loop-from-smaller t c =
    let going = c.loop-from.invariant _ c.requires.1 in
    let further = sym c.goes_further.ensures ∙ c.loop-from-test.true in
    let ran = c.run_body-run.ensures _ (going_run c.requires.1 going further) in
    omega (arith, going_conjunct c.requires.1 going further, going_on c.requires.1 going further ran c.next_state-state.ensures)

pub call-loop-from-preserved : goal.call-loop-from-preserved
call-loop-from-preserved t c = λ choice g.
    let going = c.loop-from.invariant choice g in
    let further = sym c.goes_further.ensures ∙ c.loop-from-test.true in
    going_turn g going further (c.run_body-run.ensures choice (going_run g going further)) c.next_state-state.ensures

pub call-returns : goal.call-returns
call-returns t c = λ choice g.
    let ran = going_ended g (c.loop-from.invariant choice g) (sym c.goes_further.ensures ∙ c.loop-from-test.false) in
    let entry = entry_is g c.choice_at-row.ensures c.entry_of-entry.ensures in
    call_stored g entry c.if-known.false ran.rule ran.selected ran.ran ran.told

pub run_body-loop-terminal-init : goal.run_body-loop-terminal-init
run_body-loop-terminal-init t c = λ choice g. running_start g

pub run_body-offset_bounds-words-at : goal.run_body-offset_bounds-words-at
run_body-offset_bounds-words-at t c = omega (arith, running_within c.requires.1 (c.loop-terminal.invariant _ c.requires.1))

pub run_body-bounds-words-at : goal.run_body-bounds-words-at
run_body-bounds-words-at t c = running_within c.requires.1 (c.loop-terminal.invariant _ c.requires.1)

pub run_body-returns-in-Over : goal.run_body-returns-in-Over
run_body-returns-in-Over t c = λ choice g.
    running_done g (c.loop-terminal.invariant choice g) (sym c.step_of_word-step.ensures ∙ c.in-Over.is)

pub run_body-token_at-requires : goal.run_body-token_at-requires
run_body-token_at-requires t c = token_low c.requires.1.call.given (c.loop-terminal.invariant _ c.requires.1).placed

pub run_body-call-entry-requires : goal.run_body-call-entry-requires
run_body-call-entry-requires t c =
    let run = c.loop-terminal.invariant _ c.requires.1 in
    let step = sym c.step_of_word-step.ensures ∙ c.in-Nonterminal.is in
    (omega (arith, running_falls c.requires.1 run _ step, c.decreases), (_, running_given c.requires.1 run _ step))

pub run_body-overflow_add-at : goal.run_body-overflow_add-at
run_body-overflow_add-at t c = omega (arith, (c.loop-terminal.invariant _ c.requires.1).skipped.within)

pub run_body-returns-in_default : goal.run_body-returns-in_default
run_body-returns-in_default t c = λ choice g.
    let run = c.loop-terminal.invariant choice g in
    let step = sym c.step_of_word-step.ensures in
    let read : Read choice c.args.words.now (held_tokens c.args.tokens.now) c.args.memo.now c.args.nonterminal c.args.from c.args.start
    c.match-step.memo (c.loop-terminal.at + 1) c.match-step.entry = elim c.match-step.branch [
      | run_body-in-Terminal w ↦ read_as w.memo-is w.entry-is
          (terminal_read g run _ (step ∙ w.in-Terminal.is) w.token_at.ensures w.end_behind-entry.ensures)
      | run_body-in-Nonterminal w ↦
          let called = step ∙ w.in-Nonterminal.is in
          read_as w.memo-is w.entry-is (call_read g run _ called (w.call-entry.ensures choice (running_given g run _ called)))
    ] in
    read.fails (sym c.recall-outcome.ensures ∙ ap meant c.in_default.is)

pub run_body-loop-terminal-smaller : goal.run_body-loop-terminal-smaller
run_body-loop-terminal-smaller t c = omega (arith, running_within c.requires.1 (c.loop-terminal.invariant _ c.requires.1))

pub run_body-loop-terminal-preserved : goal.run_body-loop-terminal-preserved
run_body-loop-terminal-preserved t c = λ choice g.
    let run = c.loop-terminal.invariant choice g in
    let step = sym c.step_of_word-step.ensures in
    let read : Read choice c.args.words.now (held_tokens c.args.tokens.now) c.args.memo.now c.args.nonterminal c.args.from c.args.start
    c.match-step.memo (c.loop-terminal.at + 1) c.match-step.entry = elim c.match-step.branch [
      | run_body-in-Terminal w ↦ read_as w.memo-is w.entry-is
          (terminal_read g run _ (step ∙ w.in-Terminal.is) w.token_at.ensures w.end_behind-entry.ensures)
      | run_body-in-Nonterminal w ↦
          let called = step ∙ w.in-Nonterminal.is in
          read_as w.memo-is w.entry-is (call_read g run _ called (w.call-entry.ensures choice (running_given g run _ called)))
    ] in
    read.goes _ (sym c.recall-outcome.ensures ∙ ap meant c.in-End.is)
