-- From a call to a body that it runs, and on to the calls that the body makes, the tokens left fall, or else the rank does.
use Prim.Native.Nat.{◌+◌, ◌-◌, ◌*◌}
use lib.ListN.{length}
use Rattle.semantics.specs.Choices.{Choice}
use Rattle.descent_arrays.specs.inner.Arrays.{held_tokens}
use Rattle.recursive_descent_promises.specs.inner.Descent.{CallGiven, RunGiven}
use Rattle.recursive_descent_promises.proofs.Running.{level, Running}
use Rattle.recursive_descent_promises.proofs.Calling.{Going}
use Rattle.recursive_descent.proofs.descent.+call_run_body.Given as goal

abbrev pub decreases-call : goal.decreases-call
decreases-call l = 2 * level l.words.now (held_tokens l.tokens.now) l.nonterminal l.place + 1

abbrev pub decreases-run_body : goal.decreases-run_body
decreases-run_body l = 2 * level l.words.now (held_tokens l.tokens.now) l.nonterminal l.start

abbrev pub invariant-call-loop-from : goal.invariant-call-loop-from
invariant-call-loop-from l =
    (choice : Choice) → CallGiven choice l.words l.choices l.tokens (held_tokens l.tokens) l.initial.memo l.nonterminal l.place
    → Going choice l.words (held_tokens l.tokens) l.initial.memo l.nonterminal l.place l.memo l.state

abbrev pub decreases-call-loop-from : goal.decreases-call-loop-from
decreases-call-loop-from l = length l.words - l.state.at

abbrev pub invariant-run_body-loop-terminal : goal.invariant-run_body-loop-terminal
invariant-run_body-loop-terminal l =
    (choice : Choice) → RunGiven choice l.words l.choices l.tokens (held_tokens l.tokens) l.initial.memo l.nonterminal l.from l.start
    → Running choice l.words (held_tokens l.tokens) l.initial.memo l.nonterminal l.from l.start l.memo l.at l.place

abbrev pub decreases-run_body-loop-terminal : goal.decreases-run_body-loop-terminal
decreases-run_body-loop-terminal l = length l.words - l.at
